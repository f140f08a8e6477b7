pub mod EnclosingLaws
