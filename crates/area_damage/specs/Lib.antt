-- Damage as the code holds it.
pub mod Damage
