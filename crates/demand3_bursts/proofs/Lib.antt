-- T-11 with demand 3: what it says is in Start; then an example, and why something is left to be assumed.
pub mod Start
pub mod Example
