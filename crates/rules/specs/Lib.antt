pub mod Domain
pub mod PriceTime
pub mod ProRata
pub mod AnyLength
pub mod PriceTimeLemmas
pub mod ProRataLemmas
