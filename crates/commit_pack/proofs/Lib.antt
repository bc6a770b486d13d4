pub mod LawLemmas
pub mod PackLemmas
