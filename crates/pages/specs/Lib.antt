-- THE PAGER'S RULE BOOK: 02, (iv), as short definitions that compute. To be read in this order:
pub mod Numbers
pub mod Rules
pub mod Ruled
pub mod Laws
-- worked rows:
pub mod Examples
