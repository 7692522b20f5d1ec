pub mod NetworkExamples
