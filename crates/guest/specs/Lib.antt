-- What a reader of guest memory finds.
pub mod Guest
