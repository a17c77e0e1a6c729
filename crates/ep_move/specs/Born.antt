-- Working words of private contracts: a birth that is read.
use Rattle.std.specs.Prelude.{◌≡◌, ℕ, suc, ◌≤◌, Bool, true, false, [], ◌∷◌, Some, IsNone}
use Rattle.ep_units.specs.Text.{Text, is_well_formed}
use Rattle.ep_units.specs.Clean.{clean}
use Rattle.ep_cs.specs.Edit.{apply}
use Rattle.ep_history.specs.History.{first_rev, newline}
use Rattle.ep_move.specs.declared.last.Last.{Last}
use Rattle.ep_move.specs.declared.rereading.Reread.{Reread}

-- it was opened, no birth is there, and the next one has this number
abbrev pub MayBear : Reread → ℕ → Type 0
MayBear k birth = (1 ≤ k.epoch) × IsNone k.last × (birth ≡ suc k.births)

-- the birth that a text makes is there
pub record HasFirst (new : Reread) (time : ℕ) (text : Text) : Type 0 where
  pub last : Last
  pub is : new.last ≡ Some last
  pub revs : last.revs.items ≡ first_rev time text ∷ []
  pub doc : last.doc ≡ apply (first_rev time text).change.edit newline

-- whether a birth may come next; then it is there
abbrev pub IsBorn : Reread → Reread → ℕ → ℕ → Text → Bool → Type 0
IsBorn k new birth time text true =
    MayBear k birth × (is_well_formed text ≡ true) × (clean text ≡ text)
    × (new.epoch ≡ k.epoch) × (new.births ≡ birth) × (new.public ≡ false) × HasFirst new time text
IsBorn k new birth time text false = MayBear k birth → is_well_formed text ≡ true → clean text ≡ text → ⊥
