pub mod ReportSaid
pub mod Sheets
pub mod Prices
pub mod PricesLemmas
pub mod Told
pub mod Reports
