-- Laws of an index: an empty one, one item more, and the walk of a slot.
use Rattle.std.specs.Prelude.{ℕ, zero, suc, ◌+◌, ◌-◌, ◌≤◌, ◌<◌, ◌≡◌, refl, ◌≢◌, Bool, true, false, List, length, get_or, set, replicate, ltb}
use Rattle.std.proofs.Common.{sym, ◌∙◌, arith, length-set, get_or-set_same, get_or-set_other, ltb-true, ltb-false}
use Rattle.std.proofs.Math.Decide.{ℕ_discrete}
use Rattle.table_index.specs.Index.{slots, slot_of, newest_of, before_of, with_item, Last, Indexes, Walk}

-- every slot is one of the index
pub slot_within : (key : ℕ) → slot_of key < slots
unfolding slot_of
slot_within key = omega arith

-- what tells the same slots of the items has the same index
last_same : {f g : ℕ → ℕ} (s n k : ℕ) → ((j : ℕ) → 0 < j → j ≤ n → g j ≡ f j) → Last f s n k → Last g s n k
last_same s n k e l = record {
  within = l.within;
  own = λ h. e k h l.within ∙ l.own h;
  none = λ j h b q. l.none j h b (sym (e j (omega arith) b) ∙ q);
}

pub index_same : {f g : ℕ → ℕ} (index : List ℕ) (n : ℕ) → ((j : ℕ) → 0 < j → j ≤ n → g j ≡ f j) → Indexes f index n → Indexes g index n
index_same index n e x = record {
  newest = λ s h. last_same s n (newest_of index s) e (x.newest s h);
  before = λ k h b. rw (e k h b) (last_same _ (k - 1) (before_of index k) (λ j y z. e j y (omega arith)) (x.before k h b));
}

-- zeros: no item
pub zeros : (m s : ℕ) → get_or {A = ℕ} (replicate m 0) s 0 ≡ 0
zeros zero s = refl
zeros (suc m) zero = refl
zeros (suc m) (suc s) = zeros m s

pub no_items : (f : ℕ → ℕ) (index : List ℕ) → ((s : ℕ) → s < slots → newest_of index s ≡ 0) → Indexes f index 0
no_items f index z = record {
  newest = λ s h. rw (z s h) (record { within = omega arith; own = λ y. absurd (omega arith); none = λ j y b. absurd (omega arith) });
  before = λ k h b. absurd (omega arith);
}

-- one item more
pub item_long : (index : List ℕ) (s k : ℕ) → length (with_item index s k) ≡ length index
item_long index s k = length-set (set index (slots + k - 1) (newest_of index s)) s k ∙ length-set index (slots + k - 1) (newest_of index s)

pub more_items : (f : ℕ → ℕ) (index : List ℕ) (n : ℕ) → slots + n + 1 ≤ length index → f (n + 1) < slots
    → Indexes f index n → Indexes f (with_item index (f (n + 1)) (n + 1)) (n + 1)
more_items f index n room h x = record {
  newest = λ s b. newest s b (ℕ_discrete s (f (n + 1)));
  before = λ k b l. before k b l (ℕ_discrete k (n + 1));
}
  where
    linked : List ℕ
    linked = set index (slots + (n + 1) - 1) (newest_of index (f (n + 1)))

    long : length (set index (slots + (n + 1) - 1) (newest_of index (f (n + 1)))) ≡ length index
    long = length-set index (slots + (n + 1) - 1) (newest_of index (f (n + 1)))

    -- what stands elsewhere is as it was
    elsewhere : (i : ℕ) → i ≢ f (n + 1) → i ≢ slots + (n + 1) - 1 → get_or (with_item index (f (n + 1)) (n + 1)) i 0 ≡ get_or index i 0
    elsewhere i a b = get_or-set_other linked (f (n + 1)) i (n + 1) 0 a ∙ get_or-set_other index (slots + (n + 1) - 1) i (newest_of index (f (n + 1))) 0 b

    newest : (s : ℕ) → s < slots → Dec (s ≡ f (n + 1)) → Last f s (n + 1) (newest_of (with_item index (f (n + 1)) (n + 1)) s)
    newest s b (yes e) = rw (e, get_or-set_same linked (f (n + 1)) (n + 1) 0 (omega (arith, long))) (record {
      within = omega arith;
      own = λ y. refl;
      none = λ j y z. absurd (omega arith);
    })
    newest s b (no e) =
        let l = x.newest s b in
        rw (elsewhere s e (λ q. omega arith)) (record {
          within = omega (arith, l.within);
          own = l.own;
          none = λ j y z q. later j y z q (ℕ_discrete j (n + 1));
        })
      where
        later : (j : ℕ) → newest_of index s < j → j ≤ n + 1 → f j ≡ s → Dec (j ≡ n + 1) → ⊥
        later j y z q (yes d) = e (sym q ∙ rw d)
        later j y z q (no d) = (x.newest s b).none j y (omega arith) q

    before : (k : ℕ) → 0 < k → k ≤ n + 1 → Dec (k ≡ n + 1) → Last f (f k) (k - 1) (before_of (with_item index (f (n + 1)) (n + 1)) k)
    before k b l (yes e) =
        let a : get_or (with_item index (f (n + 1)) (n + 1)) (slots + (n + 1) - 1) 0 ≡ newest_of index (f (n + 1)) =
        get_or-set_other linked (f (n + 1)) (slots + (n + 1) - 1) (n + 1) 0 (λ q. omega arith)
        ∙ get_or-set_same index (slots + (n + 1) - 1) (newest_of index (f (n + 1))) 0 (omega arith) in
        let c : n + 1 - 1 ≡ n = omega arith in
        rw (e, a, c) (x.newest (f (n + 1)) h)
    before k b l (no e) = rw (elsewhere (slots + k - 1) (λ q. omega arith) (λ q. omega arith)) (x.before k b (omega arith))

-- the walk of a slot
module _ (f : ℕ → ℕ) (P : ℕ → Type 0) (index : List ℕ) (s n : ℕ) (x : Indexes f index n) (other : (j : ℕ) → 0 < j → j ≤ n → f j ≢ s → P j) where
  pub walk_starts : s < slots → Walk f P s n (newest_of index s)
  walk_starts h = let l = x.newest s h in record {
    within = l.within;
    own = l.own;
    passed = λ j y z. other j (omega arith) z (l.none j y z);
  }

  pub walk_goes : (k : ℕ) → 0 < k → P k → Walk f P s n k → Walk f P s n (before_of index k)
  walk_goes k h p w = let l = x.before k h w.within in record {
    within = omega (arith, l.within, w.within);
    own = λ y. l.own y ∙ w.own h;
    passed = λ j y z. go j y z l;
  }
    where
      go : (j : ℕ) → before_of index k < j → j ≤ n → Last f (f k) (k - 1) (before_of index k) → P j
      go j y z l = at (ℕ_discrete j k)
        where
          at : Dec (j ≡ k) → P j
          at (yes e) = rw e p
          at (no e) = ahead (ltb j k) refl
            where
              ahead : (b : Bool) → ltb j k ≡ b → P j
              ahead true q = let a = ltb-true j k q in other j (omega arith) z (λ r. l.none j y (omega arith) (r ∙ sym (w.own h)))
              ahead false q = w.passed j (omega (arith, ltb-false j k q)) z
