-- Working words of private contracts: how what lies in memory is seen, and what a call answers of what reading gives.
use Rattle.std.specs.Prelude.{◌≡◌, ℕ, ◌-◌, List, map, length, Result, Ok, Err}
use Rattle.ep_units.specs.Text.{Text}
use Rattle.ep_csread.specs.declared.bad.ReadBad.{ReadBad}
use Rattle.ep_csread.specs.declared.bad.ReadBad.TheVariants as bad
use Rattle.ep_csread.specs.declared.fault.Fault.{Fault}
use Rattle.ep_csread.specs.declared.fault.Fault.TheVariants as faults
use Rattle.ep_csread.specs.declared.written.WrittenOp.{WrittenOp}
use Rattle.ep_csread.specs.declared.written.Written.{Written}
use Rattle.ep_csread.specs.Answer.{IsRefused}
use Rattle.ep_csread.specs.Syntax.{Operation, Parts}

abbrev pub op_view : WrittenOp → Operation
op_view o = record { stars = o.stars.items; lines = o.lines; kind = o.kind; units = o.units }

abbrev pub op_views : List WrittenOp → List Operation
op_views os = map op_view os

abbrev pub parts_view : Written → Parts
parts_view w = record { old = w.old; shrinks = w.shrinks; difference = w.difference; ops = op_views w.ops.items; bank = w.bank.now }

-- What a function returned, seen by view, is what reading gives, unless memory ran out.
abbrev pub Fails : {Y : Type 0} → Fault → Result Y ℕ → Type 0
Fails faults.Memory read = Unit {0}
Fails (faults.Syntax left) read = read ≡ Err left

abbrev pub Gives : {X Y : Type 0} → (X → Y) → Result X Fault → Result Y ℕ → Type 0
Gives view (Ok x) read = read ≡ Ok (view x)
Gives view (Err e) read = Fails e read

-- a call's answer, seen by a view, is what reading gives, unless memory ran out
abbrev pub Answers : {A B : Type 0} → (A → B) → Result A ReadBad → Result B ReadBad → Type 0
Answers view (Ok x) read = read ≡ Ok (view x)
Answers view (Err why) read = IsRefused why read

-- a fault in a text of so many units
abbrev pub fault_at : Fault → ℕ → ReadBad
fault_at faults.Memory len = bad.NoMemory
fault_at (faults.Syntax left) len = bad.Syntax (len - left)

abbrev pub syntax_read : {A : Type 0} → Text → Result A ℕ → Result A ReadBad
syntax_read text (Ok x) = Ok x
syntax_read text (Err left) = Err (bad.Syntax (length text - left))

abbrev pub attribs_read : Text → Result (List Operation × Text) ℕ → Result (List Operation) ReadBad
attribs_read text (Ok x) = Ok x.0
attribs_read text (Err left) = Err (bad.Syntax (length text - left))
