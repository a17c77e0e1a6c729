-- What came for a name gets its place, or waits.
use Rattle.std.proofs.Common.{◌≡◌, ℕ, ◌≤◌, inr, true, List, [], ◌∷◌, ◌++◌, sym, ap, ◌∙◌, subst, Option, Some, None, Ok, Err}
use Rattle.std.specs.Prelude.{◌⊎◌}
use Rattle.atomic_table.specs.Seated.{TableId}
use Rattle.ep_outside.specs.Disk.{Contents}
use Rattle.ep_outside.specs.Shelf.{IsAmong}
use Rattle.ep_pad.specs.declared.wanted.Wanted.{Wanted}
use Rattle.ep_pad.specs.declared.pass_bad.PassBad.TheVariants as bad
use Rattle.ep_house.specs.Register.{Comes, Keeps, MayOpen, Places, Register, Step, StaysIn, Waits, found_in, in_cell, on_disk, without}
use Rattle.ep_pad.specs.Halls.{Answer}

-- a disk may have any cell
pub anywhere : {H D : Type 0} (s t : Register H D) (name : List ℕ) (c : TableId) (d : D) (a : Answer) → Places s name (in_cell c) a t → Places s name (on_disk d) a t
anywhere s t name c d (Ok id) p = (p.0, p.1, p.2, p.3, tt)
anywhere s t name c d (Err (bad.Pads n)) p = p
anywhere s t name c d (Err (bad.Shelf n)) p = p
anywhere s t name c d (Err bad.Absent) p = p
anywhere s t name c d (Err bad.NoMemory) p = (p.0, p.1, p.2, (p.3.0, p.3.1, subst (StaysIn (on_disk d)) (sym p.3.2) tt))

module _ {H D : Type 0} (failed : H → ℕ) (names : H → Option (List (List ℕ))) (told : H → List ℕ → Option Contents) (disk_failed : D → ℕ) (disk_told : D → Option Contents) where
  keeps_on : (s r t : Register H D) (m : Wanted) → Keeps failed names told s r m → t.limit ≡ r.limit → t.shelf ≡ r.shelf → Keeps failed names told s t m
  keeps_on s r t m k limit shelf = record {
    limit = limit ∙ k.limit;
    later = subst (λ (h : H). failed s.shelf ≤ failed h) (sym shelf) k.later;
    others = λ other differs. ap (λ (h : H). told h other) shelf ∙ k.others other differs;
    spares = λ makes. subst (λ (h : H). (names h ≡ names s.shelf) ⊎ IsAmong (names s.shelf) m.name true) (sym shelf) (k.spares makes);
  }

  step_here : (s r t : Register H D) (m : Wanted) (w : Waits D) (a : Answer) → MayOpen s m.name → Keeps failed names told s r m → r.cells ≡ s.cells → r.waiting ≡ without s.waiting m.name
      → Comes told disk_failed disk_told (found_in s.waiting m.name) s.shelf m.name w → Places r m.name w a t → Step failed names told disk_failed disk_told s m a t
  step_here s r t m w (Ok id) may keeps cells taken comes p = inr (record {
    may = may;
    keeps = keeps_on s r t m keeps p.0 p.1;
    of = w;
    comes = comes;
    same = p.4;
    cells = p.2 ∙ ap (λ l. l ++ (m.name, id) ∷ []) cells;
    waiting = p.3 ∙ taken;
  })
  step_here s r t m w (Err (bad.Pads n)) may keeps cells taken comes p = absurd p
  step_here s r t m w (Err (bad.Shelf n)) may keeps cells taken comes p = absurd p
  step_here s r t m w (Err bad.Absent) may keeps cells taken comes p = absurd p
  step_here s r t m w (Err bad.NoMemory) may keeps cells taken comes p = record {
    room = λ shut. may.room;
    keeps = keeps_on s r t m keeps p.0 p.1;
    cells = p.2 ∙ cells;
    waiting = inr (w, p.3.0, comes, p.3.1 ∙ ap (λ l. l ++ (m.name, p.3.0) ∷ []) taken, p.3.2);
  }

  -- what came for a name got its place
  pub step_with : (s s' r t : Register H D) (m : Wanted) (w : Waits D) (a : Answer) → s' ≡ s → MayOpen s m.name → Keeps failed names told s' r m → r.cells ≡ s'.cells → r.waiting ≡ without s'.waiting m.name
      → Comes told disk_failed disk_told (found_in s'.waiting m.name) s'.shelf m.name w → Places r m.name w a t → Step failed names told disk_failed disk_told s m a t
  step_with s s' r t m w a same may keeps cells taken comes p =
      subst (λ (x : Register H D). Step failed names told disk_failed disk_told x m a t) same
      (step_here s' r t m w a (subst (λ (x : Register H D). MayOpen x m.name) (sym same) may) keeps cells taken comes p)
