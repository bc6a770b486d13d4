mod Examples
mod NameLemmas
