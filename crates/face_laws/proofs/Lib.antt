pub mod FullCuts
