-- From the clauses of the parse to the words.
use Rattle.std.proofs.Common.{◌≡◌, ◌≢◌, ◌<◌, ◌==◌, ◌∙◌, inl, inr, ℕ, List, [], ◌∷◌, map, Bool, true, false, ◌||◌, length, refl, sym, ap, subst, arith, None, Global, String}
use Rattle.std.specs.Prelude.{MatchBool}
use Rattle.std.specs.List.{list_any}
use Rattle.std.specs.String.{string_bytes}
use Rattle.clap.specs.Words.{HasKind, HasMatchesOf, Text, app_of, fault_of, is_simple, is_simple_and_free, kind_of, subcommand_of, subcommand_rows_of}
use Rattle.clap.specs.declared.builder.command.Command.{Command}
use Rattle.clap.specs.declared.error.Error.{Error}
use Rattle.clap.specs.declared.error.kind.ErrorKind.{ErrorKind}
use Rattle.clap.specs.declared.error.kind.ErrorKind.TheVariants.{OutOfMemory}
use Rattle.clap.specs.declared.parser.matches.ArgMatches.{ArgMatches}
use Rattle.ep_words.specs.Forms.{form_in, has_dash, is_dash}
use Rattle.ep_words.specs.App.{IsMade, form_met, is_no_memory, padd}
use Rattle.ep_words.specs.declared.bad.WordsBad.{WordsBad}
use Rattle.ep_words.specs.declared.bad.WordsBad.TheVariants.{Usage, NoMemory}
use Rattle.ep_words.proofs.Judged.{padd_is_free, padd_is_simple, refused, taken}

pub dash_in : (words : List (String Global)) → list_any (λ w. is_dash (string_bytes w)) words ≡ has_dash (map string_bytes words)
dash_in [] = refl
dash_in (w ∷ ws) = ap (λ b. is_dash (string_bytes w) || b) (dash_in ws)

pub none_empty : (words : List (String Global)) → length words ≡ 0 → form_in (map string_bytes words) ≡ None
none_empty [] e = refl
none_empty (w ∷ ws) e = absurd (omega arith)

pub some_there : (words : List (String Global)) → 0 < length words → map string_bytes words ≢ []
some_there [] e = absurd (omega arith)
some_there (w ∷ ws) e = λ bad. cc

pub not_zero : (n : ℕ) → (n == 0) ≡ false → 0 < n
not_zero n h = grind (arith, h)

pub none_dashed : (texts : List Text) → has_dash texts ≡ true → form_in texts ≡ None
none_dashed texts d = rw d refl

pub form_taken : (command : Command) (texts : List Text) (m : ArgMatches) → IsMade command padd → texts ≢ [] → has_dash texts ≡ false
    → HasMatchesOf (app_of command) texts m → (is_simple_and_free (app_of command) ≡ true → fault_of (app_of command) texts ≡ [])
    → form_in texts ≡ form_met (subcommand_rows_of m)
form_taken command texts m made some dash matches kinds =
    let none : fault_of padd texts ≡ [] = ap (λ a. fault_of a texts) (sym made.is) ∙ kinds (ap is_simple_and_free made.is ∙ padd_is_free) in
    let met : subcommand_rows_of m ≡ subcommand_of padd texts = (matches (ap is_simple made.is ∙ padd_is_simple)).1 ∙ ap (λ a. subcommand_of a texts) made.is in
    taken texts some dash none ∙ ap form_met (sym met)

not_among : (kind : ErrorKind) → is_no_memory kind ≡ false → kind ≡ OutOfMemory → ⊥
not_among kind other is = let bad : true ≡ false = ap is_no_memory (sym is) ∙ other in cc

pub form_refused : (command : Command) (texts : List Text) (e : Error) (r : WordsBad) → IsMade command padd → texts ≢ [] → has_dash texts ≡ false
    → (is_simple_and_free (app_of command) ≡ true → HasKind (fault_of (app_of command) texts) e)
    → MatchBool (is_no_memory (kind_of e)) (r ≡ NoMemory) (r ≡ Usage) → r ≡ Usage → form_in texts ≡ None
form_refused command texts e r made some dash kinds why usage = go (is_no_memory (kind_of e)) refl why
  where
    go : (b : Bool) → is_no_memory (kind_of e) ≡ b → MatchBool b (r ≡ NoMemory) (r ≡ Usage) → form_in texts ≡ None
    go true is memory = let bad : NoMemory ≡ Usage = sym memory ∙ usage in absurd (cc)
    go false is w =
        let kind : HasKind (fault_of padd texts) e = subst (λ a. HasKind (fault_of a texts) e) made.is (kinds (ap is_simple_and_free made.is ∙ padd_is_free)) in
        elim kind [
          | inl memory ↦ absurd (not_among (kind_of e) is memory)
          | inr among ↦ refused texts (kind_of e) some dash among
        ]
