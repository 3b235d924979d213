-- Facts about what a shelf tells.
use Rattle.std.proofs.Common.{Option, Some, None, IfSome}

pub told : {A : Type 0} (held : Option A) (P : A → Type 0) → ((x : A) → P x) → IfSome held P
told None P f = tt
told (Some x) P f = f x

pub told_more : {A : Type 0} (held : Option A) (P Q : A → Type 0) → ((x : A) → P x → Q x) → IfSome held P → IfSome held Q
told_more None P Q f h = tt
told_more (Some x) P Q f h = f x h

pub told_both : {A : Type 0} (held : Option A) (P Q R : A → Type 0) → ((x : A) → P x → Q x → R x) → IfSome held P → IfSome held Q → IfSome held R
told_both None P Q R f h k = tt
told_both (Some x) P Q R f h k = f x h k
