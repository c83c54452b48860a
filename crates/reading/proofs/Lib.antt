-- Where the readings part, by the fields that the decoder looks at; and what either reading gives.
mod Parted
pub mod Proper
