-- Records left out of a volume: where each id keeps its counting record, or was dead and has none, all that can be reached is as it was.
use Rattle.std.specs.Prelude.{ℕ, ◌≡◌, ◌⊎◌}
use Rattle.std.proofs.Math.Option.{none, some}
use mathlib.Core.List.{Memᴰ}
use Rattle.volume.specs.View.{View}
use Rattle.volume.specs.Counting.{Volume, inode_of, block_of}
use Rattle.volume.specs.Fate.{dead, fate_of}

module _ {A : Type 0} (F : View A) where
  -- an inode id that is left out: it was dead, no record but its own names it as parent or owner, and none of it is left
  pub record InodeDropped (v w : Volume A) (i : ℕ) : Type 0 where
    pub died : fate_of F v i ≡ dead
    pub unnamed : (r : A) → Memᴰ r v.inodes → F.parent r ≡ i → F.id r ≡ i
    pub unowned : (r : A) → Memᴰ r v.blocks → F.owner r ≡ i → F.id r ≡ i
    pub none_left : inode_of F w i ≡ none

  -- a block id that is left out: its counting block's owner was dead, and none of it is left
  pub record BlockDropped (v w : Volume A) (i : ℕ) : Type 0 where
    pub died : (r : A) → block_of F v i ≡ some r → fate_of F v (F.owner r) ≡ dead
    pub none_left : block_of F w i ≡ none

  -- w is v with such ids left out, and of the others what does not count
  pub record LeftOut (v w : Volume A) : Type 0 where
    pub fewer : (r : A) → Memᴰ r w.inodes → Memᴰ r v.inodes
    pub each_inode : (i : ℕ) → (inode_of F w i ≡ inode_of F v i) ⊎ InodeDropped v w i
    pub each_block : (i : ℕ) → (block_of F w i ≡ block_of F v i) ⊎ BlockDropped v w i
