-- The rule book of sleeping: Numbers, Rules. Examples. The rule that the sleepers obey: Sound. What operations and
-- answers tell: Told.
pub mod Numbers
pub mod Rules
pub mod Examples
pub mod Sound
pub mod Told
