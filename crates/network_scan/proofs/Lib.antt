-- Laws of `network_scan`.
pub mod LiteralLaws
pub mod MarkLaws
pub mod SoundLaws
pub mod SumLaws
