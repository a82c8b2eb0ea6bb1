-- The blocks of a whole file followed back, from the last one to the one that holds the first byte wanted.
use Prim.Native.Nat.{ℕ, zero, suc, ◌+◌, ◌-◌, ◌≤◌, ◌<◌}
use Rattle.std.proofs.Math.Path.{◌≡◌, refl}
use Rattle.std.proofs.Common.{sym, ap, ◌∙◌, length-append, ext_get_or, get_or-append-add, ltb-true, ltb-false}
use Rattle.std.specs.Prelude.{Bool, length, eqb, ltb}
use Rattle.std.proofs.Math.Bool.{true, false, cond}
use Rattle.std.proofs.Math.Option.{Option, none, some}
use mathlib.Core.List.{List, [], ◌∷◌, ◌++◌, append_assoc}
use native.Mathlib.Omega.{arith}
use Rattle.std.proofs.Math.ListN.{get_or-append}
use Rattle.format.specs.Bytes.{Bytes, byte_at}
use Rattle.format.specs.Ids.{NONE}
use Rattle.volume.specs.View.{View}
use Rattle.volume.specs.Contents.{snoc, chain_back, text_of, headers_from}
use Rattle.file_blocks.specs.Blocks.{text_size, block_for}
use Rattle.file_blocks.specs.Walk.{chain_block, chain_broken, text_snoc, text_more}
use Rattle.file_read.specs.Reading.{filled, laid}
use Rattle.file_read.specs.Laws.{filled_long, filled_in, filled_out, laid_long, laid_in, laid_out, headers_snoc, headers_past}

-- what has a size is there
pub sized_some : {A : Type 0} (F : View A) (o : Option (List A)) (n : ℕ) → text_size F o ≡ some n
    → (bs : List A) × (o ≡ some bs) × (n ≡ length (text_of F bs))
sized_some F none n e = let z : ◌≡◌ {A = ℕ} 0 1 = cc in absurd (omega arith)
sized_some F (some bs) n e = (bs, refl, cc)

pub sized_none : {A : Type 0} (F : View A) (o : Option (List A)) → text_size F o ≡ none → o ≡ none
sized_none F none e = refl
sized_none F (some bs) e = let z : ◌≡◌ {A = ℕ} 0 1 = cc in absurd (omega arith)

pub sized_is : {A : Type 0} (F : View A) (o : Option (List A)) (n : ℕ) (bs : List A) → text_size F o ≡ some n → o ≡ some bs → n ≡ length (text_of F bs)
sized_is F o n bs e q = let r : some (length (text_of F bs)) ≡ some n = rw q at e in cc

-- ---- a chain of some blocks

module _ {A : Type 0} (F : View A) (c : ℕ → Option A) (f left i : ℕ) (bs : List A) (chain : chain_back F c f left i ≡ some bs) where
  -- no block is left where none may be followed
  chain_empty : left ≡ 0 → bs ≡ []
  unfolding chain_back
  chain_empty e = go (eqb i NONE) (rw e at chain)
    where
      go : (b : Bool) → cond b (some []) none ≡ some bs → bs ≡ []
      go true q = cc
      go false q = let z : ◌≡◌ {A = ℕ} 0 1 = cc in absurd (omega arith)

  -- so where bytes are left, there is a block
  pub more_left : 0 < length (text_of F bs) → 0 < left
  unfolding text_of
  more_left h = go left refl
    where
      go : (n : ℕ) → left ≡ n → 0 < left
      go zero e = let z = rw (chain_empty e) at h in absurd (omega arith)
      go (suc n) e = omega arith

  -- and it is found
  pub not_broken : 0 < left → none ≡ block_for F f c i → ⊥
  not_broken h e =
      let k : left ≡ suc (left - 1) = omega arith in
      let q = sym (chain_broken F f c i (left - 1) e) ∙ rw k at chain in
      let z : ◌≡◌ {A = ℕ} 0 1 = cc in
      omega arith

  -- the last block, and those before it
  pub last_of : 0 < left → (p : A) → some p ≡ block_for F f c i
      → (xs : List A) × (chain_back F c f (left - 1) (F.previous p) ≡ some xs) × (bs ≡ xs ++ (p ∷ []))
  last_of h p e =
      let k : left ≡ suc (left - 1) = omega arith in
      go (chain_back F c f (left - 1) (F.previous p)) refl (sym (chain_block F f c i (left - 1) p e) ∙ rw k at chain)
    where
      go : (o : Option (List A)) → chain_back F c f (left - 1) (F.previous p) ≡ o → snoc o p ≡ some bs
          → (xs : List A) × (chain_back F c f (left - 1) (F.previous p) ≡ some xs) × (bs ≡ xs ++ (p ∷ []))
      go none q r = let z : ◌≡◌ {A = ℕ} 0 1 = cc in absurd (omega arith)
      go (some xs) q r = (xs, q, cc)

-- ---- the walk

-- Of the blocks bs those in `ahead`, whose bytes end at `end`, have still to be followed: `left` blocks back from id.
-- The buffer is as it is to be from there on.
pub record Going (F : View ℕ) (c : ℕ → Option ℕ) (f : ℕ) (bs : List ℕ) (from count : ℕ) (b₀ : Bytes) (id left end : ℕ) (b : Bytes) : Type 0 where
  pub ahead : List ℕ
  pub after : List ℕ
  pub parts : bs ≡ ahead ++ after
  pub chain : chain_back F c f left id ≡ some ahead
  pub ends : end ≡ length (text_of F ahead)
  pub within : left ≤ count
  pub headers : headers_from F from bs + left ≡ count + headers_from F from ahead
  pub long : length b ≡ length b₀
  pub done : (k : ℕ) → k < length b₀ → end ≤ from + k → byte_at b k ≡ byte_at (filled (text_of F bs) from b₀) k

module _ {F : View ℕ} {c : ℕ → Option ℕ} {f : ℕ} {bs : List ℕ} {from count : ℕ} {b₀ : Bytes} where
  pub going_begins : {last size : ℕ} → chain_back F c f count last ≡ some bs → size ≡ length (text_of F bs)
      → Going F c f bs from count b₀ last count size b₀
  going_begins e s = record {
    ahead = bs;
    after = [];
    parts = sym (append_nil bs);
    chain = e;
    ends = s;
    within = omega arith;
    headers = omega arith;
    long = refl;
    done = λ k h g. sym (filled_out (text_of F bs) from b₀ k h (omega arith));
  }
    where
      append_nil : (l : List ℕ) → l ++ [] ≡ l
      append_nil [] = refl
      append_nil (x ∷ l) = rw (append_nil l)

  module _ {id left end : ℕ} {b : Bytes} (g : Going F c f bs from count b₀ id left end b) where
    -- a byte is still wanted: there is a block to follow
    pub going_left : from < end → 0 < left
    going_left h = more_left F c f left id g.ahead g.chain (omega (arith, g.ends))

    pub going_found : from < end → none ≡ block_for F f c id → ⊥
    going_found h = not_broken F c f left id g.ahead g.chain (going_left h)

    module _ (h : from < end) (p : ℕ) (e : some p ≡ block_for F f c id) where
      -- the blocks before p
      before : (xs : List ℕ) × (chain_back F c f (left - 1) (F.previous p) ≡ some xs) × (g.ahead ≡ xs ++ (p ∷ []))
      before = last_of F c f left id g.ahead g.chain (going_left h) p e

      text_ahead : text_of F g.ahead ≡ text_of F before.0 ++ F.text p
      text_ahead = ap (text_of F) before.2 ∙ text_snoc F before.0 p

      begins : end ≡ length (text_of F before.0) + length (F.text p)
      begins = g.ends ∙ ap length text_ahead ∙ length-append (text_of F before.0) (F.text p)

      pub going_fits : length (F.text p) ≤ end
      going_fits = omega (arith, begins)

      text_whole : text_of F bs ≡ text_of F before.0 ++ (F.text p ++ text_of F g.after)
      text_whole =
          ap (text_of F) g.parts
          ∙ text_more F g.ahead g.after
          ∙ ap (λ (l : Bytes). l ++ text_of F g.after) text_ahead
          ∙ append_assoc (text_of F before.0) (F.text p) (text_of F g.after)

      whole_long : end ≤ length (text_of F bs)
      whole_long =
          omega (
            arith,
            begins,
            ap length text_whole,
            length-append (text_of F before.0) (F.text p ++ text_of F g.after),
            length-append (F.text p) (text_of F g.after),
          )

      -- the bytes of the file that p holds
      held : (j : ℕ) → j < length (F.text p) → byte_at (text_of F bs) (length (text_of F before.0) + j) ≡ byte_at (F.text p) j
      held j l =
          ap (λ (t : Bytes). byte_at t (length (text_of F before.0) + j)) text_whole
          ∙ get_or-append-add (text_of F before.0) (F.text p ++ text_of F g.after) j 0
          ∙ get_or-append (F.text p) (text_of F g.after) 0 j l

      module _ (begin : ℕ) (at : begin ≡ length (text_of F before.0)) where
        laid_done : (k : ℕ) → k < length b₀ → begin ≤ from + k
            → byte_at (laid (F.text p) begin from b) k ≡ byte_at (filled (text_of F bs) from b₀) k
        laid_done k l s = go (ltb (from + k) end) refl
          where
            go : (t : Bool) → ltb (from + k) end ≡ t → byte_at (laid (F.text p) begin from b) k ≡ byte_at (filled (text_of F bs) from b₀) k
            go true q =
                let w = ltb-true (from + k) end q in
                let z : length (text_of F before.0) + (from + k - begin) ≡ from + k = omega arith in
                laid_in (F.text p) begin from b (omega (arith, begins)) k (omega (arith, g.long)) s (omega (arith, begins))
                ∙ sym (held (from + k - begin) (omega (arith, begins)))
                ∙ ap (byte_at (text_of F bs)) z
                ∙ sym (filled_in (text_of F bs) from b₀ k l (omega (arith, whole_long)))
            go false q =
                let w = ltb-false (from + k) end q in
                laid_out (F.text p) begin from b (omega (arith, begins)) k (omega (arith, g.long)) (omega (arith, begins)) ∙ g.done k l w

      -- one block followed: its text laid into the buffer
      pub going_on : (i n : ℕ) (text b' : Bytes) → i ≡ F.previous p → n ≡ length (F.text p) → text ≡ F.text p → b' ≡ laid text (end - n) from b
          → Going F c f bs from count b₀ i (left - 1) (end - n) b'
      going_on i n text b' ie ne te be =
          let at : end - n ≡ length (text_of F before.0) = omega (arith, begins) in
          let l = going_left h in
          rw (be, te) (record {
            ahead = before.0;
            after = p ∷ g.after;
            parts = g.parts ∙ ap (λ (l : List ℕ). l ++ g.after) before.2 ∙ append_assoc before.0 (p ∷ []) g.after;
            chain = rw ie before.1;
            ends = at;
            within = omega (arith, g.within);
            headers = omega (
              arith,
              g.headers,
              ap (headers_from F from) before.2,
              headers_snoc F from before.0 p (omega (arith, ap length (text_snoc F before.0 p), length-append (text_of F before.0) (F.text p), begins)),
            );
            long = laid_long (F.text p) (end - n) from b (omega (arith, begins)) ∙ g.long;
            done = laid_done (end - n) at;
          })

    -- no byte is wanted any more
    pub going_counts : end ≤ from → count - left ≡ headers_from F from bs
    going_counts h = omega (arith, g.headers, g.within, headers_past F from g.ahead (omega (arith, g.ends)))

    pub going_fills : end ≤ from → b ≡ filled (text_of F bs) from b₀
    going_fills h =
        ext_get_or 0 b (filled (text_of F bs) from b₀) (g.long ∙ sym (filled_long (text_of F bs) from b₀))
        (λ k l. g.done k (omega (arith, g.long)) (omega arith))
