pub mod LastMention
pub mod CommentEdits
