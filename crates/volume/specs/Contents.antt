-- The contents of a file. Document 01, "What counts" and "Open and read".
use Rattle.std.specs.Prelude.{ℕ, zero, suc, ◌+◌, ◌-◌, List, [], ◌∷◌, ◌++◌, Bool, cond, not, length, eqb, ltb}
use Rattle.std.proofs.Math.Option.{Option, none, some}
use Rattle.format.specs.Bytes.{Bytes}
use Rattle.format.specs.Ids.{NONE}
use Rattle.volume.specs.Lists.{keep, all, bind, has, Only, nobody, several, one, only}
use Rattle.volume.specs.View.{View}
use Rattle.volume.specs.Counting.{Volume, block_of, block_ids}

-- where a chain starts that is followed back: at the one block that no other names; at NONE where there is none, which is right for
-- no block at all, and for a cycle leads nowhere, as NONE is no block
abbrev pub chain_start : Only ℕ → Option ℕ
chain_start nobody = some NONE
chain_start several = none
chain_start (one i) = some i

abbrev pub snoc : {A : Type 0} → Option (List A) → A → Option (List A)
snoc none a = none
snoc (some l) a = some (l ++ (a ∷ []))

module _ {A : Type 0} (F : View A) where
  -- i is a counting block that names f as owner
  unfoldable pub owns : (ℕ → Option A) → ℕ → ℕ → Bool
  owns c f i = has (λ r. eqb (F.owner r) f) (c i)

  unfoldable pub owned : Volume A → ℕ → List ℕ
  owned v f = keep (owns (block_of F v) f) (block_ids F v)

  -- "one block named by none of them"
  unfoldable pub unnamed : (ℕ → Option A) → List ℕ → ℕ → Bool
  unnamed c os i = all (λ j. not (has (λ r. eqb (F.previous r) i) (c j))) os

  unfoldable pub last_block : Volume A → ℕ → Option ℕ
  last_block v f = chain_start (only (keep (unnamed (block_of F v) (owned v f)) (owned v f)))

  -- the blocks of f from i back to NONE, exactly k of them, in file order
  unfoldable pub chain_back : (ℕ → Option A) → ℕ → ℕ → ℕ → Option (List A)
  chain_back c f zero i = cond (eqb i NONE) (some []) none
  chain_back c f (suc k) i = cond (owns c f i) (bind (c i) (λ r. snoc (chain_back c f k (F.previous r)) r)) none

  -- the blocks of a file in order, none if it is broken: "one chain by 'previous', .. ending in NONE, using all of them"
  unfoldable pub file_blocks : Volume A → ℕ → Option (List A)
  file_blocks v f = bind (last_block v f) (chain_back (block_of F v) f (length (owned v f)))

  -- "the data joined from the NONE end"
  unfoldable pub text_of : List A → Bytes
  text_of [] = []
  text_of (b ∷ bs) = F.text b ++ text_of bs

  -- the blocks from the last back to the one that holds the byte at p
  unfoldable pub headers_from : ℕ → List A → ℕ
  headers_from p [] = 0
  headers_from p (b ∷ bs) = cond (ltb p (length (F.text b))) (suc (length bs)) (headers_from (p - length (F.text b)) bs)
