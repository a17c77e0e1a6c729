use Rattle.std.proofs.Common.{◌≡◌, ◌/◌, ℕ, Bool, true, false, cond, List, [], ◌++◌, length, take, drop, Some, refl, sym, ◌∙◌, append-nil, take-append-drop}
use Rattle.std.specs.Prelude.{is_ok}
use Rattle.ep_outside.specs.Outside.{TakesPart}
use Rattle.try_run.proofs.run.page.PageSink.write.Goals as goal

-- the first units were kept, or nothing was
begun : (held now bytes : List ℕ) (n : ℕ) (kept : Bool) → now ≡ cond kept (held ++ take n bytes) held → TakesPart (Some held) (Some now) bytes
begun held now bytes n true e = (drop n bytes, record { gone = take n bytes; whole = sym (take-append-drop n bytes); takes = e })
begun held now bytes n false e = (bytes, record { gone = []; whole = refl; takes = e ∙ sym (append-nil held) })

pub returns-then-eq-clause-err : goal.returns-then-eq-clause-err
returns-then-eq-clause-err c =
    begun c.args.self.now.held.items c.extend_from_slice-is_full.new.self.items c.args.bytes.now (length c.args.bytes.now / 2) (is_ok c.extend_from_slice-is_full.result) c.extend_from_slice-is_full.ensures.items
