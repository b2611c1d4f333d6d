-- What a condition names: it can be asked where its parameters and alerts are there, and its truth is that of
-- what it names.
use Rattle.std.specs.Prelude.{◌≡◌, ℕ, ◌<◌, ◌≤◌}
use Rattle.ecam_spec.specs.Book.{Tree, Trees, constant, discrete, valid, compared, in_phase, alert, press, computer, negation, all, any, at_least, confirmed, held, risen, latched, none, more}
use Rattle.ecam_spec.specs.Term.{World}
use Rattle.ecam_spec.specs.Keys.{IsKey}

unfoldable mutual
  -- it names parameters and alerts by places below these numbers, and each key and computer that it names
  -- is there
  pub IsWithin : ℕ → ℕ → Tree → Type 0
  IsWithin params alerts (constant b) = Unit {0}
  IsWithin params alerts (discrete p) = p < params
  IsWithin params alerts (valid p) = p < params
  IsWithin params alerts (compared p op x) = p < params
  IsWithin params alerts (in_phase set) = Unit {0}
  IsWithin params alerts (alert a) = a < alerts
  IsWithin params alerts (press key) = IsKey key
  IsWithin params alerts (computer n) = (1 ≤ n) × (n ≤ 2)
  IsWithin params alerts (negation c) = IsWithin params alerts c
  IsWithin params alerts (all cs) = AreWithin params alerts cs
  IsWithin params alerts (any cs) = AreWithin params alerts cs
  IsWithin params alerts (at_least n cs) = AreWithin params alerts cs
  IsWithin params alerts (confirmed c n) = IsWithin params alerts c
  IsWithin params alerts (held c n) = IsWithin params alerts c
  IsWithin params alerts (risen c) = IsWithin params alerts c
  IsWithin params alerts (latched s r) = IsWithin params alerts s × IsWithin params alerts r

  pub AreWithin : ℕ → ℕ → Trees → Type 0
  AreWithin params alerts none = Unit {0}
  AreWithin params alerts (more c cs) = IsWithin params alerts c × AreWithin params alerts cs

unfoldable mutual
  -- two worlds agree in moment k on each operand that the condition names
  pub AgreeOn : World → World → ℕ → Tree → Type 0
  AgreeOn v w k (constant b) = Unit {0}
  AgreeOn v w k (discrete p) = v.values p k ≡ w.values p k
  AgreeOn v w k (valid p) = v.values p k ≡ w.values p k
  AgreeOn v w k (compared p op x) = v.values p k ≡ w.values p k
  AgreeOn v w k (in_phase set) = v.phase k ≡ w.phase k
  AgreeOn v w k (alert a) = v.active a k ≡ w.active a k
  AgreeOn v w k (press key) = v.pressed key k ≡ w.pressed key k
  AgreeOn v w k (computer n) = v.up n k ≡ w.up n k
  AgreeOn v w k (negation c) = AgreeOn v w k c
  AgreeOn v w k (all cs) = AgreeOnAll v w k cs
  AgreeOn v w k (any cs) = AgreeOnAll v w k cs
  AgreeOn v w k (at_least n cs) = AgreeOnAll v w k cs
  AgreeOn v w k (confirmed c n) = AgreeOn v w k c
  AgreeOn v w k (held c n) = AgreeOn v w k c
  AgreeOn v w k (risen c) = AgreeOn v w k c
  AgreeOn v w k (latched s r) = AgreeOn v w k s × AgreeOn v w k r

  pub AgreeOnAll : World → World → ℕ → Trees → Type 0
  AgreeOnAll v w k none = Unit {0}
  AgreeOnAll v w k (more c cs) = AgreeOn v w k c × AgreeOnAll v w k cs
