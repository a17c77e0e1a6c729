-- Rows, one behind another.
use Rattle.std.proofs.Common.{◌≡◌, ℕ, suc, ◌+◌, ◌<◌, drop, get_or, false, List, [], ◌∷◌, ◌++◌, length, inl, inr, Result, Ok, Err, Some, None, refl, sym, ap, subst, ◌∙◌, append_assoc, append-nil, arith}
use Rattle.std.proofs.lemmas.List.{drop_more}
use Rattle.ep_attr.specs.AttrMap.{Pair}
use Rattle.ep_history.specs.declared.rev.Rev.{Rev}
use Rattle.ep_history.specs.History.{lacks_newline, made, newline}
use Rattle.ep_past.specs.Revisions.{AreRevisions}
use Rattle.ep_replay.specs.Standing.{AllStand, MayStand}
use Rattle.ep_replay.proofs.Births.{births_of}
use Rattle.ep_import.specs.declared.bad.ImportBad.{ImportBad}
use Rattle.ep_import.specs.declared.bad.ImportBad.TheVariants as bad
use Rattle.ep_import.specs.Imported.{Replays, Row, StandsNone, rev_of}
use Rattle.ep_import.specs.Answer.{Answers}
use Rattle.ep_import.specs.Seen.{revs_of, row_view, row_views}
use Rattle.ep_import.specs.declared.rows.Row as declared_row
use Rattle.ep_import.specs.Steps.{Follows}

-- a row that stands, and then the others
pub follows_on : (pairs : List Pair) (vs : List Rev) (r : Row) (rs : List Row) (ws : List Rev) → Follows pairs vs r (Ok ws) → (read : Result (List Rev) ImportBad) → Replays pairs ws rs read → Replays pairs vs (r ∷ rs) read
follows_on pairs vs r rs ws (inl (v, s, e)) read h = let same : ws ≡ vs ++ v ∷ [] = cc in inl (v, s, subst (λ us. Replays pairs us rs read) same h)
follows_on pairs vs r rs ws (inr (none, e)) read h = absurd cc

-- a row that doesn't
pub follows_not : (pairs : List Pair) (vs : List Rev) (r : Row) (rs : List Row) (why : ImportBad) → Follows pairs vs r (Err why) → Replays pairs vs (r ∷ rs) (Err why)
follows_not pairs vs r rs why (inl (v, s, e)) = absurd cc
follows_not pairs vs r rs why (inr (none, e)) = inr (none, e)

-- where no revision is said, none stands
pub says_none : (pairs : List Pair) (vs : List Rev) (r : Row) → rev_of pairs r ≡ None → StandsNone pairs vs r
says_none pairs vs r e v s = let both : Some v ≡ None = sym s.0 ∙ e in absurd cc

-- where the one that is said may not stand, none does
pub stands_none : (pairs : List Pair) (vs : List Rev) (r : Row) (v : Rev) → rev_of pairs r ≡ Some v → (MayStand vs v → ⊥) → StandsNone pairs vs r
stands_none pairs vs r v e never w s = let both : Some w ≡ Some v = sym s.0 ∙ e in let same : w ≡ v = cc in never (subst (λ u. MayStand vs u) same s.1)

-- rows that were replayed stand, one behind another, and the last document ends in a newline
pub record AreReplayed (vs : List Rev) (rows : List Row) (ws : List Rev) : Type 0 where
  pub rest : List Rev
  pub all : ws ≡ vs ++ rest
  pub stand : AllStand vs rest
  pub as_many : length rest ≡ length rows
  pub ends : lacks_newline (made newline ws) ≡ false

pub replayed_stand : (pairs : List Pair) (vs : List Rev) (rows : List Row) (ws : List Rev) → Replays pairs vs rows (Ok ws) → AreReplayed vs rows ws
replayed_stand pairs vs [] ws (inl (line, e)) =
    let same : ws ≡ vs = cc in
    record { rest = []; all = same ∙ sym (append-nil vs); stand = tt; as_many = refl; ends = ap (λ us. lacks_newline (made newline us)) same ∙ line }
replayed_stand pairs vs [] ws (inr (line, e)) = absurd cc
replayed_stand pairs vs (r ∷ rs) ws (inl (v, s, h)) =
    let more = replayed_stand pairs (vs ++ v ∷ []) rs ws h in
    record { rest = v ∷ more.rest; all = more.all ∙ append_assoc vs (v ∷ []) more.rest; stand = (s.1, more.stand); as_many = ap suc more.as_many; ends = more.ends }
replayed_stand pairs vs (r ∷ rs) ws (inr (none, e)) = absurd cc

-- so of at least one row they are a birth's
pub replayed_births : (pairs : List Pair) (r : Row) (rs : List Row) (ws : List Rev) → Replays pairs [] (r ∷ rs) (Ok ws) → AreRevisions ws
replayed_births pairs r rs ws h = go (replayed_stand pairs [] (r ∷ rs) ws h)
  where
    of_rest : (rest : List Rev) → ws ≡ rest → AllStand [] rest → length rest ≡ length (r ∷ rs) → lacks_newline (made newline ws) ≡ false → AreRevisions ws
    of_rest [] e s n line = absurd (omega arith)
    of_rest (v ∷ vs) e s n line = subst AreRevisions (sym e) (births_of v vs s (ap (λ us. lacks_newline (made newline us)) (sym e) ∙ line))

    go : AreReplayed [] (r ∷ rs) ws → AreRevisions ws
    go are = of_rest are.rest are.all are.stand are.as_many are.ends

-- ---- rows of which some were replayed

-- the first of the rows from a place on
abbrev pub IsRow : List declared_row.Row → ℕ → Row → Type 0
IsRow rows i r = row_views (drop i rows) ≡ r ∷ row_views (drop (i + 1) rows)

pub row_at_place : (rows : List declared_row.Row) (i : ℕ) (d : declared_row.Row) → i < length rows → IsRow rows i (row_view (get_or rows i d))
row_at_place rows i d l = ap row_views (drop_more rows i d l)

-- what the whole answers, where the rest from a row on is replayed behind these revisions
abbrev pub Remains : List Pair → List declared_row.Row → ℕ → List Rev → Type 0
Remains pairs rows i vs = (read : Result (List Rev) ImportBad) → Replays pairs vs (row_views (drop i rows)) read → Replays pairs [] (row_views rows) read

pub remains_next : (pairs : List Pair) (rows : List declared_row.Row) (i : ℕ) (r : Row) (vs ws : List Rev) → Remains pairs rows i vs → IsRow rows i r → Follows pairs vs r (Ok ws) → Remains pairs rows (i + 1) ws
remains_next pairs rows i r vs ws remains is f read h =
    remains read (subst (λ (rs : List Row). Replays pairs vs rs read) (sym is) (follows_on pairs vs r (row_views (drop (i + 1) rows)) ws f read h))

-- a row that doesn't stand is what the whole refuses
pub remains_stop : (pairs : List Pair) (rows : List declared_row.Row) (i : ℕ) (r : Row) (vs : List Rev) (why : ImportBad) → Remains pairs rows i vs → IsRow rows i r → Answers revs_of (Follows pairs vs r) (Err why)
    → Answers revs_of (Replays pairs [] (row_views rows)) (Err why)
remains_stop pairs rows i r vs bad.NoMemory remains is f = tt
remains_stop pairs rows i r vs why remains is f =
    remains (Err why) (subst (λ (rs : List Row). Replays pairs vs rs (Err why)) (sym is) (follows_not pairs vs r (row_views (drop (i + 1) rows)) why f))
