pub mod FolderState
