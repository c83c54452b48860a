-- What a list of notices answers and leaves behind, and its pages.
pub mod Notices
pub mod Pages
