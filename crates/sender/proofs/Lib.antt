pub mod SenderLaws
