-- What is left of a change that is walked from its first run to its last.
use Rattle.std.specs.Prelude.{ℕ, ◌+◌, ◌-◌, cond, nat_lt, List, [], ◌∷◌, ◌++◌, length, drop, refl}
use Rattle.std.specs.Coded.{Coded, coded_ℕ, coded_list, coded×, code_by}
use Rattle.ep_units.specs.Text.{Text}
use Rattle.ep_cs.specs.Edit.{Step}
use Rattle.ep_cs.specs.Change.{Change, bank_of}
use Rattle.ep_cs.specs.Codes.{coded_op}
use Rattle.ep_cs.specs.Runs.{inserted, steps_of, all_passed, rest_kept}
use Rattle.ep_cs.specs.declared.op.Op.{Op}

-- runs, the units that they insert, and how many places are kept after them
pub record Left : Type 0 where
  pub ops : List Op
  pub bank : Text
  pub rest : ℕ

abbrev pub coded_left : Coded Left
coded_left =
    code_by (List Op × (Text × ℕ)) (coded× (coded_list coded_op) (coded× (coded_list coded_ℕ) coded_ℕ))
    (λ l. (l.ops, (l.bank, l.rest))) (λ p. record { ops = p.0; bank = p.1.0; rest = p.1.1 }) (λ _. refl)

-- all of a change
abbrev pub left_of : Change → Left
left_of c = record { ops = c.runs; bank = bank_of c.edit; rest = length c.edit.places - all_passed c.runs }

-- what is left, step by step
abbrev pub steps_left : Left → List Step
steps_left l = steps_of l.ops l.bank ++ rest_kept l.rest

abbrev pub first_units : List Op → ℕ
first_units [] = 0
first_units (o ∷ os) = o.units

abbrev pub first_lines : List Op → ℕ
first_lines [] = 0
first_lines (o ∷ os) = o.lines

-- how many units of the bank belong to so many units of the first run
abbrev pub first_inserted : ℕ → List Op → ℕ
first_inserted n [] = 0
first_inserted n (o ∷ os) = inserted o.kind n

abbrev pub without : ℕ → ℕ → Op → Op
without n lines o = record { kind = o.kind; units = o.units - n; lines = o.lines - lines; attrs = o.attrs }

-- runs without so many units of the first, which hold so many newlines
abbrev pub cut : ℕ → ℕ → List Op → List Op
cut n lines [] = []
cut n lines (o ∷ os) = cond (nat_lt n o.units) (without n lines o ∷ os) os

abbrev pub advanced : ℕ → ℕ → Left → Left
advanced n lines l = record { ops = cut n lines l.ops; bank = drop (first_inserted n l.ops) l.bank; rest = l.rest }

abbrev pub skipped : ℕ → Left → Left
skipped n l = record { ops = l.ops; bank = l.bank; rest = l.rest - n }
