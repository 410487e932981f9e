-- Old records overridden by edits: what is left is sound, its names rise, and each name has what its edit left, or else what it had.
use mathlib.Core.Path.{◌≡◌, refl, sym, ◌∙◌, subst}
use mathlib.Core.Bool.{Bool, true, false}
use mathlib.Core.List.{List, [], ◌∷◌, ◌++◌}
use mathlib.Core.Option.{Option, none, some}
use Prim.Native.Nat.{ℕ}
use Rattle.parse.specs.Choice.{if}
use Rattle.compare.specs.Order.{order_of}
use Rattle.compare.proofs.Orders.{order_equal, greater_flip, less_trans}
use Rattle.decode.specs.Entry.{Entry}
use Rattle.compare.specs.Prefix.{same}
use Rattle.compare.proofs.Prefixes.{same_is}
use Rattle.merge.specs.Override.{Override}
use Rattle.compare.specs.Order.{by_order}
use Rattle.merge.specs.Merge.{overridden}
use Rattle.one_merge.specs.OneMerge.{entry_named, left_by, after_edits}
use Rattle.merge.proofs.Entries.{Sound, AllSound, Ascends, AllOf, Rises}
use Rattle.merge.proofs.InOrder.{same_greater, lower}
use Rattle.std.specs.declared.cmp.Ordering.{Ordering}
use Rattle.std.specs.declared.cmp.Ordering.TheVariants.{Equal, Greater, Less}

-- ---- what begins behind a name holds no record and no edit of it

none_named : (name : List ℕ) (l : List Entry) → Ascends name l → entry_named name l ≡ none
none_named name [] u = refl
none_named name (r ∷ l) u =
    rw (same_greater name r.name u.0) (none_named name l (lower name r.name l u.0 u.1))

module _ (n : ℕ) where
  lower_edits : (low last : List ℕ) (l : List Override) → order_of low last ≡ Less → Rises n last l → Rises n low l
  lower_edits low last [] h u = tt
  lower_edits low last (e ∷ l) h u = (less_trans low last e.name h u.0, u.1, u.2)

  none_edited : (name : List ℕ) (l : List Override) (before : Option Entry) → Rises n name l → after_edits name l before ≡ before
  none_edited name [] before u = refl
  none_edited name (e ∷ l) before u =
      rw (same_greater name e.name u.0) (none_edited name l before (lower_edits name e.name l u.0 u.2))

  -- ---- what an edit puts in front of records of greater names

  module _ (name : List ℕ) (rest : List Entry) where
    put_sound : (new : List Entry) → AllOf n name new → AllSound n rest → AllSound n (new ++ rest)
    put_sound [] a s = s
    put_sound (e ∷ l) a s = rw a.2 (a.1, s)

    put_ascends : (new : List Entry) → AllOf n name new → (last : List ℕ) → order_of last name ≡ Less → Ascends name rest → Ascends last (new ++ rest)
    put_ascends [] a last h u = lower last name rest h u
    put_ascends (e ∷ l) a last h u = rw (a.2, a.0) (h, u)

    put_named : (new : List Entry) → AllOf n name new → Ascends name rest → (other : List ℕ)
        → entry_named other (new ++ rest) ≡ if (same name other) (left_by new) (entry_named other rest)
    put_named [] a u other = go (same name other) refl
      where
        go : (t : Bool) → same name other ≡ t → entry_named other rest ≡ if t none (entry_named other rest)
        go true e = none_named other rest (subst (λ (k : List ℕ). Ascends k rest) (sym (same_is name other e)) u)
        go false e = refl
    put_named (e ∷ l) a u other = rw (a.2, a.0)

  -- ---- the merge

  pub record Mixed (last : List ℕ) (olds : List Entry) (edits : List Override) (l : List Entry) : Type 0 where
    pub sound : AllSound n l
    pub up : Ascends last l
    pub named : (name : List ℕ) → entry_named name l ≡ after_edits name edits (entry_named name olds)

  module _ (last : List ℕ) (e : Override) (es : List Override) (l : List Entry) (above : order_of last e.name ≡ Less) (new : AllOf n e.name e.new) where
    -- the edit is about no old record
    add : (olds : List Entry) → Mixed e.name olds es l → Mixed last olds (e ∷ es) (e.new ++ l)
    add olds m =
        record {
          sound = put_sound e.name l e.new new m.sound;
          up = put_ascends e.name l e.new new last above m.up;
          named = λ name. rw (put_named e.name l e.new new m.up name, m.named name);
        }

    -- it is about the first
    replace : (r : Entry) (rs : List Entry) → r.name ≡ e.name → Mixed e.name rs es l → Mixed last (r ∷ rs) (e ∷ es) (e.new ++ l)
    replace r rs same_name m = record { sound = (add rs m).sound; up = (add rs m).up; named = λ name. (add rs m).named name ∙ go name (same e.name name) refl }
      where
        go : (name : List ℕ) (t : Bool) → same e.name name ≡ t
            → if t (left_by e.new) (after_edits name es (entry_named name rs)) ≡ if t (left_by e.new) (after_edits name es (entry_named name (r ∷ rs)))
        go name true q = refl
        go name false q = rw (same_name, q)

  -- the first old record is about no edit
  keep : (last : List ℕ) (r : Entry) (rs : List Entry) (edits : List Override) (l : List Entry) → order_of last r.name ≡ Less → Sound n r
      → Rises n r.name edits → Mixed r.name rs edits l → Mixed last (r ∷ rs) edits (r ∷ l)
  keep last r rs edits l above s v m = record { sound = (s, m.sound); up = (above, m.up); named = λ name. go name (same r.name name) refl }
    where
      go : (name : List ℕ) (t : Bool) → same r.name name ≡ t
          → if t (some r) (entry_named name l) ≡ after_edits name edits (if t (some r) (entry_named name rs))
      go name true q = sym (none_edited name edits (some r) (subst (λ (k : List ℕ). Rises n k edits) (sym (same_is r.name name q)) v))
      go name false q = m.named name

  pub mixed : (last : List ℕ) (olds : List Entry) (edits : List Override) → AllSound n olds → Ascends last olds → Rises n last edits
      → Mixed last olds edits (overridden olds edits)
  mixed last [] [] s u v = record { sound = tt; up = tt; named = λ name. refl }
  mixed last [] (e ∷ es) s u v = add last e es (overridden [] es) v.0 v.1 [] (mixed e.name [] es tt tt v.2)
  mixed last (r ∷ rs) [] s u v = record { sound = s; up = u; named = λ name. refl }
  mixed last (r ∷ rs) (e ∷ es) s u v =
      go (order_of r.name e.name) refl
      (λ h. mixed r.name rs (e ∷ es) s.1 u.1 h)
      (λ h. mixed e.name rs es s.1 h v.2)
      (λ h. mixed e.name (r ∷ rs) es s h v.2)
    where
      go : (o : Ordering) → order_of r.name e.name ≡ o
          → (Rises n r.name (e ∷ es) → Mixed r.name rs (e ∷ es) (overridden rs (e ∷ es)))
          → (Ascends e.name rs → Mixed e.name rs es (overridden rs es))
          → (Ascends e.name (r ∷ rs) → Mixed e.name (r ∷ rs) es (overridden (r ∷ rs) es))
          → Mixed last (r ∷ rs) (e ∷ es)
          (by_order o (r ∷ overridden rs (e ∷ es)) (e.new ++ overridden rs es) (e.new ++ overridden (r ∷ rs) es))
      go Less q less equal greater =
          let w : Rises n r.name (e ∷ es) = (q, v.1, v.2) in
          keep last r rs (e ∷ es) (overridden rs (e ∷ es)) u.0 s.0 w (less w)
      go Equal q less equal greater =
          let k = order_equal r.name e.name q in
          replace last e es (overridden rs es) v.0 v.1 r rs k (equal (rw k at u.1))
      go Greater q less equal greater =
          add last e es (overridden (r ∷ rs) es) v.0 v.1 (r ∷ rs) (greater (greater_flip r.name e.name q, u.1))
