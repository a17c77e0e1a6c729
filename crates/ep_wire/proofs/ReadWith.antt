-- A change that is read with a pool has pairs of the pool and a well-formed text.
use Rattle.std.proofs.Common.{◌≡◌, ℕ, suc, ◌≤◌, ◌<◌, ◌^◌, ◌||◌, Bool, true, false, List, [], ◌∷◌, ◌++◌, length, map, Ok, refl, sym, ap, ◌∙◌, subst, arith}
use Rattle.std.specs.List.{AllByRecursion, IsDistinct, flat_map}
use Rattle.std.proofs.lemmas.Map.Made.{length-le_from_is_member}
use Rattle.ep_units.specs.Text.{Text, is_well_formed}
use Rattle.ep_attr.specs.AttrMap.{Pair}
use Rattle.ep_pool.specs.Pool.{has, same_pair}
use Rattle.ep_pool.specs.Read.{AreTexts, IsText}
use Rattle.ep_pool.proofs.Found.{same_pair_equiv}
use Rattle.ep_pool.proofs.Gathering.{same_pair_is, same_pair_itself}
use Rattle.ep_cs.specs.Change.{Change, bank_from, bank_of}
use Rattle.ep_cs.specs.Doc.{Cell, text_of}
use Rattle.ep_cs.specs.Edit.{Place}
use Rattle.ep_cs.specs.Fits.{AreDocuments}
use Rattle.ep_cs.specs.NormalRuns.{IsNormal}
use Rattle.ep_cs.specs.declared.op.Op.{Op}
use Rattle.ep_csread.specs.Grammar.{AreRight}
use Rattle.ep_csread.specs.Reading.{reading, reading_attribs, resolved}
use Rattle.ep_csread.specs.Spelling.{Numbered, all_named, pairs_named}
use Rattle.ep_csread.proofs.Spelled.{read_spells, read_spells_text}
use Rattle.ep_wire_words.specs.Sent.{AreSent, IsSent}
use Rattle.ep_wire.specs.ReadWith.{IsReadWith}
use Rattle.ep_wire_words.proofs.Distinct.{named_distinct}
use Rattle.ep_wire.proofs.Named.{OfCells, OfChange, OfOps, OfPlaces, change_of_of, named_of, resolved_of}
use Rattle.ep_wire_words.proofs.Joined.{text_appended}
use Rattle.ep_wire_words.proofs.Units.{IsUnit, all_units, behind_all, both, units_all}

abbrev In : List Pair → Pair → Type 0
In pool p = has pool p ≡ true

-- ---- pairs of a pool

-- pairs that a number of 32 bits counts are few enough
pub few_pairs : (n : ℕ) (pairs : List Pair) → n ≡ length pairs → n < 2 ^ 32 → length pairs < 2 ^ 32
few_pairs n pairs is few = subst (λ (k : ℕ). k < 2 ^ 32) is few

later : (p : Pair) (pool ps : List Pair) → AllByRecursion (In pool) ps → AllByRecursion (In (p ∷ pool)) ps
later p pool [] all = tt
later p pool (q ∷ ps) all = (either (same_pair q p) (has pool q) all.0, later p pool ps all.1)
  where
    either : (a b : Bool) → b ≡ true → (a || b) ≡ true
    either true b e = refl
    either false b e = e

all_in : (pool : List Pair) → AllByRecursion (In pool) pool
all_in [] = tt
all_in (p ∷ ps) = (ap (λ b. b || has ps p) (same_pair_itself p), later p ps ps (all_in ps))

member_in : (pool ps : List Pair) (q : Pair) → AllByRecursion (In pool) ps → has ps q ≡ true → In pool q
member_in pool [] q all is = absurd cc
member_in pool (p ∷ ps) q all is = by (same_pair q p) refl is (λ told. member_in pool ps q all.1 told)
  where
    by : (b : Bool) → same_pair q p ≡ b → (b || has ps q) ≡ true → (has ps q ≡ true → In pool q) → In pool q
    by true same told rest = subst (In pool) (sym (same_pair_is q p same)) all.0
    by false other told rest = rest told

no_more : (pool ps : List Pair) → IsDistinct same_pair ps → AllByRecursion (In pool) ps → length ps ≤ length pool
no_more pool ps distinct all = length-le_from_is_member same_pair_equiv ps pool distinct (λ q is. member_in pool ps q all is)

text_in : (pool : List Pair) (q : Pair) → AreTexts pool → In pool q → IsText q.0 × IsText q.1
text_in [] q texts is = absurd cc
text_in (p ∷ ps) q texts is = by (same_pair q p) refl is (λ told. text_in ps q texts.2 told)
  where
    by : (b : Bool) → same_pair q p ≡ b → (b || has ps q) ≡ true → (has ps q ≡ true → IsText q.0 × IsText q.1) → IsText q.0 × IsText q.1
    by true same told rest = subst (λ (x : Pair). IsText x.0 × IsText x.1) (sym (same_pair_is q p same)) (texts.0, texts.1)
    by false other told rest = rest told

texts_in : (pool ps : List Pair) → AreTexts pool → AllByRecursion (In pool) ps → AreTexts ps
texts_in pool [] texts all = tt
texts_in pool (p ∷ ps) texts all =
    let here = text_in pool p texts all.0 in
    (here.0, here.1, texts_in pool ps texts all.1)

module _ (pool : List Pair) where
  cells_text : (cs : List Cell) → OfCells (In pool) IsUnit cs → AllByRecursion IsUnit (text_of cs)
  cells_text [] all = tt
  cells_text (c ∷ cs) all = (all.0.1, cells_text cs all.1)

  piece_text : (cs : List Cell) → OfCells (In pool) IsUnit cs → is_well_formed (text_of cs) ≡ true → IsText (text_of cs)
  piece_text cs all formed = (all_units (text_of cs) (cells_text cs all), formed)

  bank_text : (places : List Place) (last : List Cell) → OfPlaces (In pool) IsUnit places → OfCells (In pool) IsUnit last → AreDocuments places last → IsText (bank_from places last)
  bank_text [] last all end documents = piece_text last end (both _ _ documents).0
  bank_text (p ∷ ps) last all end documents =
      text_appended (text_of p.before) (bank_from ps last) (piece_text p.before all.0.0 (both _ _ documents.0).0) (bank_text ps last all.1 end documents.1)

  right_with : (old new : ℕ) (os : List Numbered) (bank : Text) (c : Change) → AreRight old new (map (resolved pool) os) bank c → AllByRecursion IsUnit bank → IsNormal c → IsReadWith pool c
  right_with old new os bank c right units normal =
      let of = change_of_of (In pool) IsUnit old (map (resolved pool) os) bank (resolved_of (In pool) IsUnit pool os (all_in pool)) units in
      let all = subst (OfChange (In pool) IsUnit) (sym right.change) of in
      record { normal = normal; bank = bank_text c.edit.places c.edit.last all.places all.last normal.pieces; named = all.runs }

  pub change_with : (text : Text) (c : Change) → reading pool text ≡ Ok c → IsText text → IsNormal c → IsReadWith pool c
  change_with text c is units normal =
      let s = read_spells pool text c is in
      let w = s.written in
      let whole : AllByRecursion IsUnit (90 ∷ 58 ∷ (w.old ++ _)) = subst (AllByRecursion IsUnit) w.whole (units_all text units.0) in
      let difference = behind_all w.old _ whole.1.1 in
      let ops = behind_all w.difference _ difference.1 in
      right_with _ _ _ s.writing.bank c s.right (behind_all w.ops _ ops).1 normal

  pub attribs_with : (text attribs : Text) (c : Change) → reading_attribs pool text attribs ≡ Ok c → IsText text → IsNormal c → IsReadWith pool c
  attribs_with text attribs c is units normal =
      let s = read_spells_text pool text attribs c is in
      right_with _ _ _ text c s.right (units_all text units.0) normal

  -- ---- it can be sent

  pub sent_with : (c : Change) → AreTexts pool → length pool < 2 ^ 32 → IsReadWith pool c → IsSent c
  sent_with c texts few is =
      let named = named_of (In pool) IsUnit c.runs is.named in
      record { normal = is.normal; few = omega (arith, few, no_more pool (pairs_named c.runs) (named_distinct c.runs) named); pairs = texts_in pool (pairs_named c.runs) texts named; bank = is.bank }

  runs_with : (cs : List Change) → AllByRecursion (IsReadWith pool) cs → OfOps (In pool) IsUnit (flat_map (λ (c : Change). c.runs) cs)
  runs_with [] all = tt
  runs_with (c ∷ cs) all = joined c.runs _ all.0.named (runs_with cs all.1)
    where
      joined : (xs ys : List Op) → OfOps (In pool) IsUnit xs → OfOps (In pool) IsUnit ys → OfOps (In pool) IsUnit (xs ++ ys)
      joined [] ys p q = q
      joined (x ∷ xs) ys p q = (p.0, joined xs ys p.1 q)

  each_with : (cs : List Change) → AllByRecursion (IsReadWith pool) cs → AllByRecursion (λ (c : Change). IsNormal c × IsText (bank_of c.edit)) cs
  each_with [] all = tt
  each_with (c ∷ cs) all = ((all.0.normal, all.0.bank), each_with cs all.1)

  pub all_sent_with : (cs : List Change) → AreTexts pool → length pool < 2 ^ 32 → AllByRecursion (IsReadWith pool) cs → AreSent cs
  all_sent_with cs texts few all =
      let runs = flat_map (λ (c : Change). c.runs) cs in
      let named = named_of (In pool) IsUnit runs (runs_with cs all) in
      record { each = each_with cs all; few = omega (arith, few, no_more pool (all_named cs) (named_distinct runs) named); pairs = texts_in pool (all_named cs) texts named }

  pub both_with : (cs ds : List Change) → AllByRecursion (IsReadWith pool) cs → AllByRecursion (IsReadWith pool) ds → AllByRecursion (IsReadWith pool) (cs ++ ds)
  both_with [] ds p q = q
  both_with (c ∷ cs) ds p q = (p.0, both_with cs ds p.1 q)
