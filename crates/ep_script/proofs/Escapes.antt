-- How a text is read from left to right.
use Rattle.std.proofs.Common.{◌≡◌, ◌≢◌, ℕ, ◌+◌, ◌<◌, ◌==◌, Bool, true, false, List, [], ◌∷◌, ◌++◌, length, get_or, drop, refl, sym, ◌∙◌, ap, arith, append_assoc, Option, Some, None}
use Rattle.std.specs.Option.{option_map}
use Rattle.std.proofs.Math.Numerals.{add-one}
use Rattle.std.proofs.Math.Seq.{drop-cons}
use Rattle.std.proofs.lemmas.Bool.Decides.{nat_tests}
use Rattle.ep_script.specs.Texts.{escape, before, unescaped_from, unescaped}

-- a text before another, where there is one
abbrev pub after : List ℕ → Option (List ℕ) → Option (List ℕ)
after out rest = option_map (λ us. out ++ us) rest

after-before : (out : List ℕ) (u : ℕ) (o : Option (List ℕ)) → after out (before (Some u) o) ≡ after (out ++ u ∷ []) o
after-before out u None = refl
after-before out u (Some us) = ap Some (sym (append_assoc out (u ∷ []) us))

-- the units of s before i say `out`
pub record IsReadTo (s out : List ℕ) (behind : Bool) (i : ℕ) : Type 0 where
  pub whole : unescaped s ≡ after out (unescaped_from behind (drop i s))

module _ (s out : List ℕ) (i : ℕ) (below : i < length s) where
  pub backslash : get_or s i 0 ≡ 92 → IsReadTo s out false i → IsReadTo s out true (i + 1)
  backslash here h =
      let yes : (get_or s i 0 == 92) ≡ true = grind (arith, nat_tests) in
      let e : unescaped_from false (drop i s) ≡ unescaped_from true (drop (i + 1) s) = rw (add-one, drop-cons s i 0 below, yes) in
      record { whole = h.whole ∙ ap (after out) e }

  pub plain : get_or s i 0 ≢ 92 → IsReadTo s out false i → IsReadTo s (out ++ get_or s i 0 ∷ []) false (i + 1)
  plain other h =
      let unlike : (get_or s i 0 == 92) ≡ false = grind (arith, nat_tests) in
      let e : unescaped_from false (drop i s) ≡ before (Some (get_or s i 0)) (unescaped_from false (drop (i + 1) s)) = rw (add-one, drop-cons s i 0 below, unlike) in
      record { whole = h.whole ∙ (ap (after out) e ∙ after-before out (get_or s i 0) _) }

  pub escape_ends : (u : ℕ) → Some u ≡ escape (get_or s i 0) → IsReadTo s out true i → IsReadTo s (out ++ u ∷ []) false (i + 1)
  escape_ends u here h =
      let e : unescaped_from true (drop i s) ≡ before (Some u) (unescaped_from false (drop (i + 1) s)) = rw (add-one, drop-cons s i 0 below, ← here) in
      record { whole = h.whole ∙ (ap (after out) e ∙ after-before out u _) }
