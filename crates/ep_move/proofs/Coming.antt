-- A history that comes in, or why none does.
use Rattle.std.proofs.Common.{◌≡◌, ℕ, ◌-◌, List, length, Option, inl, inr, refl, sym, subst}
use Rattle.std.specs.Prelude.{⊤, Ok, Err}
use Rattle.ep_units.specs.Text.{Text}
use Rattle.ep_outside.specs.Disk.{Contents}
use Rattle.ep_outside.specs.Outside.{IsWhole, Takes, TakesPart}
use Rattle.ep_import.specs.Answer.{Answers}
use Rattle.ep_import.specs.Imported.{Imports, Said}
use Rattle.ep_import.specs.Seen.{said}
use Rattle.ep_import.specs.declared.bad.ImportBad.{ImportBad}
use Rattle.ep_import.specs.declared.bad.ImportBad.TheVariants as bad
use Rattle.ep_import.specs.declared.history.History.{History}
use Rattle.ep_move.specs.Lines.{imported}
use Rattle.ep_move.specs.Moving.{ComesIn, IsNone, IsUntaken, Says, SaysNone}
use Rattle.ep_move.specs.Moving.IsNone.{NoHistory}
use Rattle.ep_move.specs.Moving.IsRefused.{ByFile, ByText}
use Rattle.ep_move.specs.Moving.SaysNone.{Long, Short}
use Rattle.ep_move.specs.Stopped.{PutsAndSays, SaysLine, StopsBy, StopsLong, WritesStop, stop_by_import}
use Rattle.ep_move.specs.declared.lines.Reason.{Reason}
use Rattle.ep_move.specs.declared.lines.Reason.TheVariants as reason
use Rattle.ep_move.specs.declared.moved.Moved.{Moved}
use Rattle.ep_move.specs.declared.moved.Moved.TheVariants as moved
use Rattle.ep_move.specs.declared.stop.Stop.{Stop}
use Rattle.ep_move.specs.declared.stop.Stop.TheVariants as stop

-- ---- what bytes say

pub says_of : (id : Text) (bytes text : List ℕ) (h : History) → text ≡ bytes → Answers said (Imports id text) (Ok h) → Imports id bytes (Ok (said h))
says_of id bytes text h same a = subst (λ (t : List ℕ). Imports id t (Ok (said h))) same a

none_of : (id : Text) (text : List ℕ) (why : ImportBad) → Answers said (Imports id text) (Err why) → StopsBy (IsNone id text) ⊥ ⊥ (stop_by_import why)
none_of id text (bad.TooBig n) a = NoHistory (bad.TooBig n) (reason.TooBig n) a refl
none_of id text bad.NotJson a = NoHistory bad.NotJson reason.NotJson a refl
none_of id text (bad.Shape place) a = NoHistory (bad.Shape place) (reason.Shape place) a refl
none_of id text (bad.Revision n) a = NoHistory (bad.Revision n) (reason.Revision n) a refl
none_of id text bad.Replay a = NoHistory bad.Replay reason.Replay a refl
none_of id text bad.NoMemory a = tt

pub stops_of : (id : Text) (bytes text : List ℕ) (why : ImportBad) (s : Stop) → text ≡ bytes → Answers said (Imports id text) (Err why) → s ≡ stop_by_import why → StopsBy (IsNone id bytes) ⊥ ⊥ s
stops_of id bytes text why s same a is =
    subst (λ (x : Stop). StopsBy (IsNone id bytes) ⊥ ⊥ x) (sym is) (subst (λ (t : List ℕ). StopsBy (IsNone id t) ⊥ ⊥ (stop_by_import why)) same (none_of id text why a))

pub not_source : (B : Reason → Type 0) (D : Type 0) (s : Stop) → StopsBy B ⊥ D s → s ≡ stop.SourceFault → ⊥
not_source B D s h e = subst (λ (x : Stop). StopsBy B ⊥ D x) e h

-- ---- what a source says

pub long_none : (id : Text) (old new : Option (List ℕ)) (s : Stop) → StopsBy (StopsLong old new) ⊤ ⊥ s → StopsBy (SaysNone id old new) ⊤ ⊥ s
long_none id old new (stop.Refused why) h = subst (SaysNone id old new) (sym h.0) (Long h.1)
long_none id old new stop.SourceFault h = tt
long_none id old new stop.DiskFault h = h
long_none id old new stop.NoMemory h = tt

pub short_none : (id : Text) (old new : Option (List ℕ)) (bytes : List ℕ) (s : Stop) → IsWhole old new bytes → StopsBy (IsNone id bytes) ⊥ ⊥ s → StopsBy (SaysNone id old new) ⊤ ⊥ s
short_none id old new bytes (stop.Refused why) w h = Short bytes why w h
short_none id old new bytes stop.SourceFault w h = absurd h
short_none id old new bytes stop.DiskFault w h = h
short_none id old new bytes stop.NoMemory w h = tt

-- ---- how it ends

-- a source that says nothing
pub none_comes : (id : Text) (old new : Option (List ℕ)) (told : Option Contents) (held now : Option (List ℕ)) (s : Stop) (end : Moved) → StopsBy (SaysNone id old new) ⊤ ⊥ s → WritesStop id held now s end
    → ComesIn id old new told held now end
none_comes id old new told held now (stop.Refused why) moved.Refused h w = (why, ByText h, w)
none_comes id old new told held now (stop.Refused why) moved.SinkFault h w = inr (why, ByText h, w)
none_comes id old new told held now (stop.Refused why) moved.NoMemory h w = w
none_comes id old new told held now (stop.Refused why) moved.All h w = absurd w
none_comes id old new told held now (stop.Refused why) moved.SourceFault h w = absurd w
none_comes id old new told held now (stop.Refused why) moved.DiskFault h w = absurd w
none_comes id old new told held now stop.SourceFault moved.SourceFault h w = w
none_comes id old new told held now stop.SourceFault moved.Refused h w = absurd w
none_comes id old new told held now stop.SourceFault moved.SinkFault h w = absurd w
none_comes id old new told held now stop.SourceFault moved.NoMemory h w = absurd w
none_comes id old new told held now stop.SourceFault moved.All h w = absurd w
none_comes id old new told held now stop.SourceFault moved.DiskFault h w = absurd w
none_comes id old new told held now stop.DiskFault end h w = absurd h
none_comes id old new told held now stop.NoMemory moved.NoMemory h w = w
none_comes id old new told held now stop.NoMemory moved.Refused h w = absurd w
none_comes id old new told held now stop.NoMemory moved.SinkFault h w = absurd w
none_comes id old new told held now stop.NoMemory moved.SourceFault h w = absurd w
none_comes id old new told held now stop.NoMemory moved.All h w = absurd w
none_comes id old new told held now stop.NoMemory moved.DiskFault h w = absurd w

-- a history that is put, or not
pub some_comes : (id : Text) (old new : Option (List ℕ)) (told : Option Contents) (held now : Option (List ℕ)) (s : Said) (end : Moved) → Says id old new s → PutsAndSays id told s held now end
    → ComesIn id old new told held now end
some_comes id old new told held now s moved.All h w = (s, h, w)
some_comes id old new told held now s moved.Refused h w = (w.0, ByFile s h w.1, w.2)
some_comes id old new told held now s moved.SinkFault h (inl w) = inl (s, h, w)
some_comes id old new told held now s moved.SinkFault h (inr w) = inr (w.0, ByFile s h w.1, w.2)
some_comes id old new told held now s moved.SourceFault h w = absurd w
some_comes id old new told held now s moved.DiskFault h w = w
some_comes id old new told held now s moved.NoMemory h w = w

-- what stopped where the device of the end failed
pub by_source : (id : Text) (held now : Option (List ℕ)) (s : Stop) (end : Moved) → WritesStop id held now s end → end ≡ moved.SourceFault → s ≡ stop.SourceFault
by_source id held now (stop.Refused why) moved.Refused w e = cc
by_source id held now (stop.Refused why) moved.SinkFault w e = cc
by_source id held now (stop.Refused why) moved.NoMemory w e = cc
by_source id held now (stop.Refused why) moved.All w e = absurd w
by_source id held now (stop.Refused why) moved.SourceFault w e = absurd w
by_source id held now (stop.Refused why) moved.DiskFault w e = absurd w
by_source id held now stop.SourceFault end w e = refl
by_source id held now stop.DiskFault moved.DiskFault w e = cc
by_source id held now stop.DiskFault moved.Refused w e = absurd w
by_source id held now stop.DiskFault moved.SinkFault w e = absurd w
by_source id held now stop.DiskFault moved.NoMemory w e = absurd w
by_source id held now stop.DiskFault moved.SourceFault w e = absurd w
by_source id held now stop.DiskFault moved.All w e = absurd w
by_source id held now stop.NoMemory moved.NoMemory w e = cc
by_source id held now stop.NoMemory moved.Refused w e = absurd w
by_source id held now stop.NoMemory moved.SinkFault w e = absurd w
by_source id held now stop.NoMemory moved.SourceFault w e = absurd w
by_source id held now stop.NoMemory moved.All w e = absurd w
by_source id held now stop.NoMemory moved.DiskFault w e = absurd w

pub puts_of : (id : Text) (told : Option Contents) (s : Said) (held now : Option (List ℕ)) (why : Stop) (end : Moved) (disk : Type 0) → StopsBy (IsUntaken told s) ⊥ disk why → WritesStop id held now why end → PutsAndSays id told s held now end
puts_of id told s held now (stop.Refused why) moved.Refused disk h w = (why, h, w)
puts_of id told s held now (stop.Refused why) moved.SinkFault disk h w = inr (why, h, w)
puts_of id told s held now (stop.Refused why) moved.NoMemory disk h w = w
puts_of id told s held now (stop.Refused why) moved.All disk h w = absurd w
puts_of id told s held now (stop.Refused why) moved.SourceFault disk h w = absurd w
puts_of id told s held now (stop.Refused why) moved.DiskFault disk h w = absurd w
puts_of id told s held now stop.SourceFault end disk h w = absurd h
puts_of id told s held now stop.DiskFault moved.DiskFault disk h w = w
puts_of id told s held now stop.DiskFault moved.Refused disk h w = absurd w
puts_of id told s held now stop.DiskFault moved.SinkFault disk h w = absurd w
puts_of id told s held now stop.DiskFault moved.NoMemory disk h w = absurd w
puts_of id told s held now stop.DiskFault moved.SourceFault disk h w = absurd w
puts_of id told s held now stop.DiskFault moved.All disk h w = absurd w
puts_of id told s held now stop.NoMemory moved.NoMemory disk h w = w
puts_of id told s held now stop.NoMemory moved.Refused disk h w = absurd w
puts_of id told s held now stop.NoMemory moved.SinkFault disk h w = absurd w
puts_of id told s held now stop.NoMemory moved.SourceFault disk h w = absurd w
puts_of id told s held now stop.NoMemory moved.All disk h w = absurd w
puts_of id told s held now stop.NoMemory moved.DiskFault disk h w = absurd w

-- the line of a history that was put
pub said_puts : (id : Text) (told : Option Contents) (s : Said) (held now : Option (List ℕ)) (line : List ℕ) (end : Moved) → line ≡ imported (length s.revs - 1) → SaysLine line held now end
    → PutsAndSays id told s held now end
said_puts id told s held now line moved.All is w = subst (λ (l : List ℕ). Takes held now l) is w
said_puts id told s held now line moved.SinkFault is w = inl (subst (λ (l : List ℕ). TakesPart held now l) is w)
said_puts id told s held now line moved.Refused is w = absurd w
said_puts id told s held now line moved.SourceFault is w = absurd w
said_puts id told s held now line moved.DiskFault is w = absurd w
said_puts id told s held now line moved.NoMemory is w = absurd w
