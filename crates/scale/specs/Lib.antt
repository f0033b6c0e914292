pub mod Barred
pub mod Ops
pub mod Times
pub mod Grades
pub mod TimeGrades
pub mod GradesLemmas
pub mod TimeGradesLemmas
pub mod TimesLemmas
