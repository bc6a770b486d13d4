pub mod Codec
pub mod FormsKeep
pub mod Lists
pub mod ListsKeep
pub mod Parts
pub mod RowForms
pub mod RowLaws
pub mod Rows
