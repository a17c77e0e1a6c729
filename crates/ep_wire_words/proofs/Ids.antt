-- The ids of a text are texts without commas, and never one empty id alone.
use Rattle.std.proofs.Common.{◌≡◌, ℕ, ◌<◌, Bool, true, false, true≢false, not, cond, List, [], ◌∷◌, drop, slice_index, refl, sym, ap, ◌∙◌, subst, arith}
use Rattle.std.specs.Str.{IsUtf8}
use Rattle.std.specs.List.{All, AllByRecursion, onto_first, slice_split}
use Rattle.std.proofs.lemmas.Bool.Decides.{nat_tests}
use Rattle.std.proofs.lemmas.List.Elements.{All-from_recursion}
use Rattle.std.proofs.lemmas.List.Splits.{slice_split-cons_no, slice_split-cons_yes}
use Rattle.ep_units.specs.Text.{Text, is_high, is_low, is_paired, is_well_formed}
use Rattle.ep_units.specs.Utf8.{units_of}
use Rattle.ep_pool.specs.Read.{IsText}
use Rattle.ep_pool.proofs.Texts.{units_fit}
use Rattle.ep_wire_words.specs.Sent.{AreIds}
use Rattle.ep_wire_words.specs.Sessions.{ids_in, is_comma}
use Rattle.ep_wire_words.proofs.Units.{IsUnit, all_units, both, units_all}

-- the units of a text in UTF-8
pub units_are_text : (bytes : List ℕ) (us : Text) → us ≡ units_of bytes → IsUtf8 bytes → is_well_formed us ≡ true → IsText us
units_are_text bytes us is utf8 formed = (subst (λ (vs : Text). (k : ℕ) → slice_index vs k < 65536) (sym is) (units_fit bytes utf8), formed)

-- a piece, where the unit before it is a first half or not
record IsPiece (half : Bool) (us : Text) : Type 0 where
  pub paired : is_paired half us ≡ true
  pub units : AllByRecursion IsUnit us
  pub plain : AllByRecursion (λ u. is_comma u ≡ false) us

abbrev ArePieces : Bool → List Text → Type 0
ArePieces half [] = ⊥
ArePieces half (p ∷ ps) = IsPiece half p × AllByRecursion (IsPiece false) ps

comma_is : (u : ℕ) → is_comma u ≡ true → u ≡ 44
comma_is u e = grind (arith, nat_tests, e)

-- a comma is no half of a pair
not_half : (half : Bool) (u : ℕ) → is_comma u ≡ true → cond half (is_low u) (not (is_low u)) ≡ true → (half ≡ false) × (is_high u ≡ false)
not_half half u comma here = by half (subst (λ n. cond half (is_low n) (not (is_low n)) ≡ true) (comma_is u comma) here)
  where
    by : (b : Bool) → cond b (is_low 44) (not (is_low 44)) ≡ true → (b ≡ false) × (is_high u ≡ false)
    by true e = absurd (true≢false (sym e))
    by false e = (refl, ap is_high (comma_is u comma))

begun : (half : Bool) (u : ℕ) (ps : List Text) → cond half (is_low u) (not (is_low u)) ≡ true → IsUnit u → is_comma u ≡ false → ArePieces (is_high u) ps → ArePieces half (onto_first u ps)
begun half u [] here unit plain all = absurd all
begun half u (p ∷ ps) here unit plain all =
    (record { paired = rw here all.0.paired; units = (unit, all.0.units); plain = (plain, all.0.plain) }, all.1)

pieces : (half : Bool) (us : Text) → is_paired half us ≡ true → AllByRecursion IsUnit us → ArePieces half (slice_split is_comma us)
pieces half [] paired units = (record { paired = paired; units = tt; plain = tt }, tt)
pieces half (u ∷ us) paired units = by (is_comma u) refl (pieces (is_high u) us parts.1 units.1)
  where
    parts : (cond half (is_low u) (not (is_low u)) ≡ true) × (is_paired (is_high u) us ≡ true)
    parts = both (cond half (is_low u) (not (is_low u))) (is_paired (is_high u) us) paired

    all_false : (ps : List Text) → ArePieces false ps → AllByRecursion (IsPiece false) ps
    all_false [] all = absurd all
    all_false (p ∷ ps) all = all

    by : (b : Bool) → is_comma u ≡ b → ArePieces (is_high u) (slice_split is_comma us) → ArePieces half (slice_split is_comma (u ∷ us))
    by true e rest =
        let halves = not_half half u e parts.0 in
        rw (slice_split-cons_yes is_comma u us e) (
          record { paired = ap not halves.0; units = tt; plain = tt },
          all_false (slice_split is_comma us) (subst (λ b. ArePieces b (slice_split is_comma us)) halves.1 rest),
        )
    by false e rest = rw (slice_split-cons_no is_comma u us e) (begun half u (slice_split is_comma us) parts.0 units.0 e rest)

abbrev IsId : Text → Type 0
IsId id = IsText id × All (λ u. is_comma u ≡ false) id

piece_id : (us : Text) → IsPiece false us → IsId us
piece_id us is = ((all_units us is.units, is.paired), All-from_recursion (λ u. is_comma u ≡ false) us is.plain)

piece_ids : (ps : List Text) → AllByRecursion (IsPiece false) ps → AllByRecursion IsId ps
piece_ids [] all = tt
piece_ids (p ∷ ps) all = (piece_id p all.0, piece_ids ps all.1)

first_ids : (ps : List Text) → ArePieces false ps → AllByRecursion IsId ps
first_ids [] all = absurd all
first_ids (p ∷ ps) all = (piece_id p all.0, piece_ids ps all.1)

not_alone : (u : ℕ) (us : Text) → slice_split is_comma (u ∷ us) ≡ [] ∷ [] → ⊥
not_alone u us is = by (is_comma u) refl is
  where
    onto : (ps : List Text) → onto_first u ps ≡ [] ∷ [] → ⊥
    onto [] e = absurd cc
    onto (p ∷ ps) e = absurd cc

    some : (vs : Text) → slice_split is_comma vs ≡ [] → ⊥
    some [] e = absurd cc
    some (v ∷ vs) e = go (is_comma v) refl
      where
        one : (ps : List Text) → onto_first v ps ≡ [] → ⊥
        one [] e = absurd cc
        one (p ∷ ps) e = absurd cc

        go : (b : Bool) → is_comma v ≡ b → ⊥
        go true t = let none = sym (slice_split-cons_yes is_comma v vs t) ∙ e in absurd cc
        go false t = one (slice_split is_comma vs) (sym (slice_split-cons_no is_comma v vs t) ∙ e)

    by : (b : Bool) → is_comma u ≡ b → slice_split is_comma (u ∷ us) ≡ [] ∷ [] → ⊥
    by true t e = some us (ap (λ (ps : List Text). drop 1 ps) (sym (slice_split-cons_yes is_comma u us t) ∙ e))
    by false t e = onto (slice_split is_comma us) (sym (slice_split-cons_no is_comma u us t) ∙ e)

ids_are : (us : Text) → IsText us → AreIds (ids_in us)
ids_are [] text = (tt, λ e. absurd cc)
ids_are (u ∷ us) text = (first_ids (slice_split is_comma (u ∷ us)) (pieces false (u ∷ us) text.1 (units_all (u ∷ us) text.0)), not_alone u us)

-- the pieces of a text that has units
pub pieces_are : (us : Text) (ids : List Text) → IsText us → ids ≡ slice_split is_comma us → (us ≡ [] → ⊥) → AreIds ids
pieces_are [] ids text is some = absurd (some refl)
pieces_are (u ∷ us) ids text is some = subst AreIds (sym is) (ids_are (u ∷ us) text)
