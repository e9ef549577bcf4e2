pub mod OrderLemmas
pub mod RankLemmas
pub mod JoinLemmas
pub mod FewLemmas
pub mod AnswerLemmas
pub mod AskedLemmas
pub mod TestLemmas
