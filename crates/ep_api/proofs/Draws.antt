-- Numbers drawn.
use Rattle.std.proofs.Common.{◌≡◌, ℕ, ◌%◌, List, [], ◌∷◌, map, length, refl, sym, subst, Option, Ok}
use Rattle.std.proofs.lemmas.List.{append-nil}
use Rattle.ep_dir_records.specs.declared.ids.Drawn.{Drawn}
use Rattle.ep_api.specs.Tasks.{Drew, draw}
use Rattle.ep_api.specs.Passes.{ByDraws, DrawsAll}

pub drew : (ns : List ℕ) (d : Drawn) (t u : Option (List ℕ)) → DrawsAll t u ns → length ns ≡ 10 → d.digits ≡ map (λ n. n % 36) ns → ByDraws t draw (Ok d) u
drew ns d t u draws ten digits = λ desk hall pads. record {
  log = Drew ns ∷ [];
  adds = record {
    desk = sym (append-nil desk);
    hall = sym (append-nil hall);
    pads = sym (append-nil pads);
    draws = let P : List ℕ → Type 0 = λ ms. DrawsAll t u ms in subst P (sym (append-nil ns)) draws;
  };
  comes = record { numbers = ns; drawn = d; ten = ten; digits = digits; all = refl; comes = refl };
}
