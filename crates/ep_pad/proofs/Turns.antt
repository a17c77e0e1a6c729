-- What an open machine does at an entry, by what the entry comes to.
use Rattle.std.proofs.Common.{◌≡◌, ℕ, true, [], ◌∷◌, ◌++◌, Option, Some, None, Ok, Err, refl, sym, ap, ◌∙◌, subst}
use Rattle.ep_history.specs.Pad.{PadState}
use Rattle.ep_history.specs.Entries.{Entry, Answer, Outcome, Reply, outcome, is_recordable}
use Rattle.ep_history.specs.Entries.Outcome.{Refuses, Answers, Records}
use Rattle.ep_history.specs.Machine.{MachineState, Size, Turn, IsOpenStep, IsThen, HasRisen, closed, journal_fault, keeping, refusing, turn, turn_of}
use Rattle.ep_history.specs.Machine.IsOpenStep.{Does, Fails}
use Rattle.ep_history.specs.declared.pad_bad.PadBad.{PadBad}
use Rattle.ep_history.specs.declared.pad_bad.PadBad.TheVariants.{Store}
use Rattle.ep_history.specs.declared.record.Record.{Record}

-- a turn, where it is known what comes of the entry
pub turn-of : (size : Size) (st : MachineState) (e : Entry) (o : Outcome) → outcome st.pad e ≡ o → turn size st e ≡ turn_of size st (is_recordable e) o
turn-of size st e o h = ap (turn_of size st (is_recordable e)) h

-- and that it can be recorded
pub turn-recorded : (size : Size) (st : MachineState) (e : Entry) (r : Record) (a : Answer) (pad : PadState) (f : Option PadBad)
    → outcome st.pad e ≡ Records r a pad → is_recordable e ≡ true → journal_fault size st r ≡ f → turn size st e ≡ keeping st f r a pad
turn-recorded size st e r a pad f h can j =
    turn-of size st e (Records r a pad) h
    ∙ ap (λ c. turn_of size st c (Records r a pad)) can
    ∙ ap (λ g. keeping st g r a pad) j

-- it does what its turn is
does : (size : Size) (st : MachineState) (e : Entry) (t : Turn) (reply : Reply) (new : MachineState)
    → turn size st e ≡ t → reply ≡ t.reply → IsThen t.state new → IsOpenStep size st e reply new
does size st e t reply new h r n = Does (r ∙ ap (λ (x : Turn). x.reply) (sym h)) (subst (λ (x : Turn). IsThen x.state new) (sym h) n)

pub refuses : (size : Size) (st : MachineState) (e : Entry) (bad : PadBad) (new : MachineState)
    → outcome st.pad e ≡ Refuses bad → IsThen st new → IsOpenStep size st e (Err bad) new
refuses size st e bad new h n = does size st e (refusing st bad) (Err bad) new (turn-of size st e (Refuses bad) h) refl n

pub answers : (size : Size) (st : MachineState) (e : Entry) (a : Answer) (pad : PadState) (new : MachineState)
    → outcome st.pad e ≡ Answers a pad → IsThen (record st { pad = pad }) new → IsOpenStep size st e (Ok a) new
answers size st e a pad new h n = does size st e (record { reply = Ok a; state = record st { pad = pad } }) (Ok a) new (turn-of size st e (Answers a pad) h) refl n

pub records : (size : Size) (st : MachineState) (e : Entry) (r : Record) (a : Answer) (pad : PadState) (new : MachineState)
    → outcome st.pad e ≡ Records r a pad → is_recordable e ≡ true → journal_fault size st r ≡ None
    → IsThen (record st { records = st.records ++ r ∷ []; pad = pad }) new → IsOpenStep size st e (Ok a) new
records size st e r a pad new h can j n =
    does size st e (keeping st None r a pad) (Ok a) new (turn-recorded size st e r a pad None h can j) refl n

pub full : (size : Size) (st : MachineState) (e : Entry) (r : Record) (a : Answer) (pad : PadState) (bad : PadBad) (new : MachineState)
    → outcome st.pad e ≡ Records r a pad → is_recordable e ≡ true → journal_fault size st r ≡ Some bad → IsThen st new → IsOpenStep size st e (Err bad) new
full size st e r a pad bad new h can j n =
    does size st e (keeping st (Some bad) r a pad) (Err bad) new (turn-recorded size st e r a pad (Some bad) h can j) refl n

pub fails : (size : Size) (st : MachineState) (e : Entry) (r : Record) (a : Answer) (pad : PadState) (count : ℕ) (new : MachineState)
    → outcome st.pad e ≡ Records r a pad → is_recordable e ≡ true → journal_fault size st r ≡ None
    → HasRisen st new count → IsThen (closed r st) new → IsOpenStep size st e (Err (Store count)) new
fails size st e r a pad count new h can j rose n =
    Fails count r (ap (λ (t : Turn). t.state.records) (turn-recorded size st e r a pad None h can j)) refl rose n
