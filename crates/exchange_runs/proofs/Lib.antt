pub mod AmongLemmas
pub mod DigestLemmas
pub mod FolderLemmas
pub mod MemberLemmas
pub mod PlayedAmongLemmas
pub mod PlayedLemmas
pub mod SeenLemmas
pub mod WorldLemmas
