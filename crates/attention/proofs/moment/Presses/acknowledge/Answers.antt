use Rattle.std.proofs.Common.{◌≡◌, Bool, true, false, ◌||◌, refl}
use Rattle.ecam_spec.specs.Lamps as lamps
use Rattle.attention.proofs.moment.Presses.acknowledge.Goals as goal

first-is : (m x y : Bool) → m ≡ x → m ≡ true → m ≡ (x || y)
first-is m true y is on = is
first-is m false y is on = cc

second-is : (m e x y : Bool) → m ≡ x → e ≡ y → m ≡ false → e ≡ (x || y)
second-is m e true y is other off = cc
second-is m e false y is other off = other

pub returns-then-self : goal.returns-then-self
unfolding lamps.acknowledges
returns-then-self c = λ a k p. rw c.in-Three.is (first-is _ _ _ p.mw c.if-self.true)

pub returns-else-self : goal.returns-else-self
unfolding lamps.acknowledges
returns-else-self c = λ a k p. rw c.in-Three.is (second-is _ _ _ _ p.mw p.emer c.if-self.false)

pub returns-then-self-2 : goal.returns-then-self-2
unfolding lamps.acknowledges
returns-then-self-2 c = λ a k p. rw c.in-Two.is (first-is _ _ _ p.mc c.if-self-2.true)

pub returns-else-self-2 : goal.returns-else-self-2
unfolding lamps.acknowledges
returns-else-self-2 c = λ a k p. rw c.in-Two.is (second-is _ _ _ _ p.mc p.emer c.if-self-2.false)

pub returns-in-One : goal.returns-in-One
unfolding lamps.acknowledges
returns-in-One c = λ a k p. rw c.in-One.is refl
