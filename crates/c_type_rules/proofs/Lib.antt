pub mod CaseLaws
pub mod ConstantLaws
pub mod ExpressionLaws
pub mod FirstLaws
pub mod IndexLaws
pub mod RuleLaws
pub mod ScopeLaws
pub mod ValueLaws
