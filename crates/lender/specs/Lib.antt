pub mod Lender
