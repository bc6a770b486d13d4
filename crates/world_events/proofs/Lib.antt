pub mod DrawLemmas
pub mod ExchangeLemmas
pub mod PeerLemmas
pub mod SeedLemmas
pub mod WithinLemmas
