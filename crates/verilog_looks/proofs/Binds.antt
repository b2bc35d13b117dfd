-- What follows an action, after which other rules are read.
use Rattle.std.proofs.Common.{◌≡◌, List, Result, Ok, Err, refl}
use Rattle.grammar.specs.Reading.{Stop, refusal, acting, ◌>>=◌}

module _ {T S E : Type 0} where
  pub bind1 : (o : Result S E) (f : S → Result (S × List T) (Stop T E)) (ts : List T) (a : S × List T → Result (S × List T) (Stop T E))
      → (acting o f (λ e. Err (refusal e ts)) >>= a) ≡ acting o (λ m. f m >>= a) (λ e. Err (refusal e ts))
  bind1 (Ok m) f ts a = refl
  bind1 (Err e) f ts a = refl

  pub bind2 : (o : Result S E) (f : S → Result (S × List T) (Stop T E)) (ts : List T) (a b : S × List T → Result (S × List T) (Stop T E))
      → ((acting o f (λ e. Err (refusal e ts)) >>= a) >>= b) ≡ acting o (λ m. (f m >>= a) >>= b) (λ e. Err (refusal e ts))
  bind2 (Ok m) f ts a b = refl
  bind2 (Err e) f ts a b = refl

  pub bind3 : (o : Result S E) (f : S → Result (S × List T) (Stop T E)) (ts : List T) (a b c : S × List T → Result (S × List T) (Stop T E))
      → (((acting o f (λ e. Err (refusal e ts)) >>= a) >>= b) >>= c) ≡ acting o (λ m. ((f m >>= a) >>= b) >>= c) (λ e. Err (refusal e ts))
  bind3 (Ok m) f ts a b c = refl
  bind3 (Err e) f ts a b c = refl

  pub bind4 : (o : Result S E) (f : S → Result (S × List T) (Stop T E)) (ts : List T) (a b c d : S × List T → Result (S × List T) (Stop T E))
      → ((((acting o f (λ e. Err (refusal e ts)) >>= a) >>= b) >>= c) >>= d) ≡ acting o (λ m. (((f m >>= a) >>= b) >>= c) >>= d) (λ e. Err (refusal e ts))
  bind4 (Ok m) f ts a b c d = refl
  bind4 (Err e) f ts a b c d = refl

  pub bind6 : (o : Result S E) (f : S → Result (S × List T) (Stop T E)) (ts : List T) (a b c d i j : S × List T → Result (S × List T) (Stop T E))
      → ((((((acting o f (λ e. Err (refusal e ts)) >>= a) >>= b) >>= c) >>= d) >>= i) >>= j) ≡ acting o (λ m. (((((f m >>= a) >>= b) >>= c) >>= d) >>= i) >>= j) (λ e. Err (refusal e ts))
  bind6 (Ok m) f ts a b c d i j = refl
  bind6 (Err e) f ts a b c d i j = refl
