pub mod Numbers
pub mod PairLaw
pub mod TreeLaw
pub mod RawLaw
pub mod HeadLaw
pub mod IndexLaw
