pub mod ResultLaws
pub mod RoomLaws
