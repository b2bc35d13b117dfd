-- What two calls ask together.
use Rattle.std.proofs.Common.{◌≡◌, refl, ℕ, ◌+◌, ◌≤◌, Bool, ◌∙◌, ap, sym, subst, arith, rules}
use Rattle.std.proofs.lemmas.Bool.Decides.{nat_tests}
use Rattle.std.specs.Prelude.{false, Result, Ok, Err, is_ok, IsErr}
use Rattle.desk_ports.specs.DiskAsked.{one_call_more, answers_call}
use Rattle.desk_ports.specs.Faults.{NoneFails}
use Rattle.desk_ports.specs.DiskSpent.{HasRoom, Spends, Costs}
use Rattle.desk_ports.specs.declared.disk_asked.DiskAsked.{DiskAsked}

module _ {D : Type 0} (fails : D → ℕ → Bool) (asked most : D → DiskAsked) where
  pub spends_none : (disk : D) → Spends fails asked most disk disk 0 0 0
  spends_none disk = record { fails_stay = refl; most_stays = refl; calls_within = omega arith; bytes_within = omega arith; end_within = omega arith }

  module _ (old mid : D) (c₁ b₁ e₁ : ℕ) (first : Spends fails asked most old mid c₁ b₁ e₁) where
    pub spends_then : (new : D) (c₂ b₂ e₂ c b e : ℕ) → Spends fails asked most mid new c₂ b₂ e₂ → c₁ + c₂ ≤ c → b₁ + b₂ ≤ b → e₁ ≤ e → e₂ ≤ e → Spends fails asked most old new c b e
    spends_then new c₂ b₂ e₂ c b e second cs bs es₁ es₂ = record {
      fails_stay = second.fails_stay ∙ first.fails_stay;
      most_stays = second.most_stays ∙ first.most_stays;
      calls_within = omega (arith, first.calls_within, second.calls_within);
      bytes_within = omega (arith, first.bytes_within, second.bytes_within);
      end_within = omega (arith, first.end_within, second.end_within);
    }

    pub room_then : (c₂ b₂ e₂ c b e : ℕ) → HasRoom fails asked most old c b e → c₁ + c₂ ≤ c → b₁ + b₂ ≤ b → e₂ ≤ e → HasRoom fails asked most mid c₂ b₂ e₂
    room_then c₂ b₂ e₂ c b e room cs bs es = record {
      none_fails = subst NoneFails (sym first.fails_stay) room.none_fails;
      calls_fit = omega (arith, first.calls_within, room.calls_fit, ap (λ (m : DiskAsked). m.calls) first.most_stays);
      bytes_fit = omega (arith, first.bytes_within, room.bytes_fit, ap (λ (m : DiskAsked). m.written) first.most_stays);
      end_fits = omega (arith, room.end_fits, ap (λ (m : DiskAsked). m.end) first.most_stays);
    }

    -- a second call, which failed where the whole did
    pub costs_then : (new : D) (c₂ b₂ e₂ c b e : ℕ) (failed whole : Type 0) → Costs fails asked most mid new c₂ b₂ e₂ failed → (whole → failed)
        → c₁ + c₂ ≤ c → b₁ + b₂ ≤ b → e₁ ≤ e → e₂ ≤ e → Costs fails asked most old new c b e whole
    costs_then new c₂ b₂ e₂ c b e failed whole second why cs bs es₁ es₂ = record {
      spends = spends_then new c₂ b₂ e₂ c b e second.spends cs bs es₁ es₂;
      succeeds = λ room did. second.succeeds (room_then c₂ b₂ e₂ c b e room cs bs es₂) (why did);
    }

  -- more than is asked
  pub spends_more : (old new : D) (c₁ b₁ e₁ c b e : ℕ) → Spends fails asked most old new c₁ b₁ e₁ → c₁ ≤ c → b₁ ≤ b → e₁ ≤ e → Spends fails asked most old new c b e
  spends_more old new c₁ b₁ e₁ c b e first cs bs es = record {
    fails_stay = first.fails_stay;
    most_stays = first.most_stays;
    calls_within = omega (arith, first.calls_within);
    bytes_within = omega (arith, first.bytes_within);
    end_within = omega (arith, first.end_within);
  }

  -- one call that writes nothing
  pub call_costs : {T E : Type 0} (old new : D) (result : Result T E) → is_ok result ≡ answers_call (fails old) (most old) (asked old) → asked new ≡ one_call_more (asked old)
      → (fails new ≡ fails old) × (most new ≡ most old) → Costs fails asked most old new 1 0 0 (IsErr result)
  call_costs old new (Ok value) answers is (told, limits) = record {
    spends = record {
      fails_stay = told;
      most_stays = limits;
      calls_within = omega (arith, ap (λ (a : DiskAsked). a.calls) is);
      bytes_within = omega (arith, ap (λ (a : DiskAsked). a.written) is);
      end_within = omega (arith, ap (λ (a : DiskAsked). a.end) is);
    };
    succeeds = λ room failed. search rules;
  }
  call_costs old new (Err error) answers is (told, limits) = record {
    spends = record {
      fails_stay = told;
      most_stays = limits;
      calls_within = omega (arith, ap (λ (a : DiskAsked). a.calls) is);
      bytes_within = omega (arith, ap (λ (a : DiskAsked). a.written) is);
      end_within = omega (arith, ap (λ (a : DiskAsked). a.end) is);
    };
    succeeds = λ room failed. never room.calls_fit (room.none_fails (asked old).calls) answers;
  }
    where
      never : (asked old).calls + 1 ≤ (most old).calls → fails old (asked old).calls ≡ false → false ≡ answers_call (fails old) (most old) (asked old) → ⊥
      never fits none same = grind (arith, nat_tests)
