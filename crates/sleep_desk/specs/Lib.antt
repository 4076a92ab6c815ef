-- The desk with its sleepers: Rules, the rule book; Promised, what an event promises; Told, any list of what happens;
-- Lawful, what holds of whoever calls the code.
pub mod Rules
pub mod Promised
pub mod Told
pub mod Lawful
