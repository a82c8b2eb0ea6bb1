-- The blocks of a chain that is whole: what holds of the blocks of a chain holds of some.
use Rattle.std.specs.Prelude.{ℕ, ◌≡◌, List, length}
use Rattle.std.proofs.Math.Option.{some}
use Rattle.format.specs.Bytes.{Bytes}
use Rattle.volume.specs.Contents.{text_of}
use Rattle.record_places.specs.Place.{by_place}
use Rattle.file_read.specs.Reading.{chain_of, Whole}
use Rattle.file_read.specs.Follow.{sized_some}
use Rattle.file_read.specs.declared.Chain.{Chain}

module _ (image : Bytes) (ids spots : List ℕ) (h : Chain) (whole : Whole image ids spots h) where
  pub blocks : (bs : List ℕ) × (chain_of image ids spots h ≡ some bs) × (h.size ≡ length (text_of (by_place image) bs))
  blocks = sized_some (by_place image) (chain_of image ids spots h) h.size whole

  pub of_blocks : {P : List ℕ → Type 0} → ((bs : List ℕ) → chain_of image ids spots h ≡ some bs → P bs) → P blocks.0
  of_blocks p = p blocks.0 blocks.1
