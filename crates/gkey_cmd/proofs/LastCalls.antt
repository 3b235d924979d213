-- What a function answers by its last call, out of what that call answers.
use Rattle.std.proofs.Common.{Result, Ok, Err, IfOk, IfErr, OnOk}

pub if_ok_more : {T E : Type 0} (P R : T → Type 0) → ((t : T) → P t → R t) → (answer : Result T E) → IfOk answer P → IfOk answer R
if_ok_more P R more (Ok t) h = more t h
if_ok_more P R more (Err e) h = tt

pub if_err_more : {T E : Type 0} (P R : E → Type 0) → ((e : E) → P e → R e) → (answer : Result T E) → IfErr answer P → IfErr answer R
if_err_more P R more (Ok t) h = tt
if_err_more P R more (Err e) h = more e h

pub on_ok : {T E : Type 0} (P : Type 0) → P → (answer : Result T E) → OnOk answer P
on_ok P h (Ok t) = h
on_ok P h (Err e) = tt

pub on_ok_more : {T E : Type 0} (P R : Type 0) → (P → R) → (answer : Result T E) → OnOk answer P → OnOk answer R
on_ok_more P R more (Ok t) h = more h
on_ok_more P R more (Err e) h = tt
