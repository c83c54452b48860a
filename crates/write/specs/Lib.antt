-- What a guest write answers and leaves behind.
pub mod Write
