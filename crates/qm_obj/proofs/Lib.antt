mod CornerLemmas
mod FeedLemmas
pub mod Groups
mod JoinLemmas
mod KeptLemmas
pub mod LawSoup
pub mod LawText
pub mod SoupLemmas
pub mod TailLemmas
pub mod WordLemmas
