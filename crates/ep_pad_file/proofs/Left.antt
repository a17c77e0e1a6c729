-- What is left of a file, and what openings make of it.
use Rattle.std.proofs.Common.{◌≡◌, inl, ⊎_elim, ℕ, ◌≤◌, List, [], ◌∷◌, ◌++◌, length, take, refl, sym, ◌∙◌, ap, subst, arith, true, true≢false}
use Rattle.std.proofs.lemmas.List.{take_all}
use Rattle.ep_journal.specs.File.{is_foreign, IsAtRest, IsMending, IsUnfinished}
use Rattle.ep_journal.proofs.Unfinished.{behind_stands, behind_mends, stands_still, mends}
use Rattle.ep_record.specs.Bytes.{bytes_of, IsEncoding}
use Rattle.ep_history.specs.declared.record.Record.{Record}
use Rattle.ep_pad_file.specs.Standing.{IsLeft, IsLeftOf, IsOldOrMore, StandsFor}
use Rattle.ep_pad_file.proofs.Standing.{native, stands_same, one_or_other}

left_of_stands : (rs pending : List Record) (rest file : List ℕ) → IsAtRest rest → StandsFor rs rest → IsLeftOf rest pending file → IsOldOrMore rs pending file
left_of_stands rs [] rest file at_rest s left = inl (stands_same rs rest file s (behind_stands rest [] at_rest (omega arith) file left))
left_of_stands rs (r ∷ []) rest file at_rest s left =
    one_or_other rs r rest file (bytes_of r) s (record { is = left.0; same = refl }) (stands_still rest (bytes_of r) at_rest left.1 file left.2)
left_of_stands rs (r ∷ q ∷ qs) rest file at_rest s left = absurd left

pub left_stands : (rs pending : List Record) (file : List ℕ) → IsLeft rs pending file → IsOldOrMore rs pending file
left_stands rs pending file l = left_of_stands rs pending l.rest file l.at_rest l.stands l.left

left_of_mends : (pending : List Record) (rest file next : List ℕ) → IsAtRest rest → IsLeftOf rest pending file → IsMending file next → IsLeftOf rest pending next
left_of_mends [] rest file next at_rest left m = behind_mends rest [] at_rest (omega arith) file next left m
left_of_mends (r ∷ []) rest file next at_rest left m = (left.0, left.1, mends rest (bytes_of r) at_rest left.1 file next left.2 m)
left_of_mends (r ∷ q ∷ qs) rest file next at_rest left m = absurd left

pub left_mends : (rs pending : List Record) (file next : List ℕ) → IsLeft rs pending file → IsMending file next → IsLeft rs pending next
left_mends rs pending file next l m = record { rest = l.rest; at_rest = l.at_rest; stands = l.stands; left = left_of_mends pending l.rest file next l.at_rest l.left m }

pub left_native : (rs pending : List Record) (file : List ℕ) → IsLeft rs pending file → is_foreign file ≡ true → ⊥
left_native rs pending file l foreign = ⊎_elim
    (λ (s : StandsFor rs file). true≢false (sym foreign ∙ native rs file s))
    (λ (s : StandsFor (rs ++ pending) file). true≢false (sym foreign ∙ native (rs ++ pending) file s))
    (left_stands rs pending file l)

-- a file at rest, where no record is being appended
pub rests : (rs : List Record) (file image : List ℕ) → IsAtRest file → StandsFor rs file → image ≡ file → IsLeft rs [] image
rests rs file image at_rest s is = record {
  rest = file;
  at_rest = at_rest;
  stands = s;
  left = ap (λ (l : List ℕ). take (length file) l) is ∙ take_all (length file) file (omega arith);
}

-- and where this one is
pub unfinished : (rs : List Record) (r : Record) (file image rec : List ℕ) → IsAtRest file → StandsFor rs file → IsEncoding rec r → length rec ≤ 67108864 → IsUnfinished file rec image → IsLeft rs (r ∷ []) image
unfinished rs r file image rec at_rest s enc small left = record {
  rest = file;
  at_rest = at_rest;
  stands = s;
  left = (enc.is, omega (arith, small, ap (λ (l : List ℕ). length l) enc.same), subst (λ (b : List ℕ). IsUnfinished file b image) enc.same left);
}
