pub mod FileName
pub mod Standard
