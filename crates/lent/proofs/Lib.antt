-- Why the lent form does what its definition says, and that it equals the plain form.
pub mod Laws
pub mod Equal
