pub mod CoreTexts
