mod AlikeLemmas
pub mod ApartLemmas
pub mod FetchKeptLemmas
pub mod FetchKindLemmas
pub mod PartsLemmas
pub mod PlaceLemmas
pub mod PushKeptLemmas
pub mod PushKindLemmas
mod PutLemmas
mod SameLemmas
mod StandLemmas
